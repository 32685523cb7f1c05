use Rattle.std.proofs.Common.{◌≡◌, drop}
use Rattle.schema.specs.Shape.{shape}
use Rattle.objects.specs.Appended.{with_items}
use Rattle.objects.specs.Managers.{pairs}
use Rattle.objects.specs.ObjectText.{entry_items}
use Rattle.objects.proofs.managed_text.write_each.Given as goal

-- what is left, written behind what is there, is all
abbrev pub invariant-loop-entry : goal.invariant-loop-entry
invariant-loop-entry l =
    with_items (entry_items (shape l.schema) l.api_version (pairs (drop l.entry-index l.entries))) l.out ≡ with_items (entry_items (shape l.schema) l.api_version (pairs l.entries)) l.fn.out
