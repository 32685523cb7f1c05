use Rattle.std.proofs.Common.{◌≡◌, drop}
use Rattle.std.specs.Prelude.{filter}
use Rattle.ownership.specs.Apply.{clear_of_all}
use Rattle.objects.specs.Managers.{pairs, manager_view}
use Rattle.objects.specs.Owners.{others}
use Rattle.objects.proofs.Entries.{is_other}
use Rattle.ownership.proofs.applying.clear_of_others.Given as goal

-- what is clear so far, cleared of those that are left
abbrev pub invariant-loop-entry : goal.invariant-loop-entry
invariant-loop-entry l = clear_of_all l.clear (filter (is_other (manager_view l.manager)) (pairs (drop l.entry-index l.entries))) ≡ clear_of_all l.fn.paths (others l.managers (manager_view l.manager))
