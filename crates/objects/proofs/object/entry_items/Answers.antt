use Rattle.std.proofs.Common.{◌∙◌, ap, map}
use Rattle.std.proofs.lemmas.List.{take_all}
use Rattle.serde_json.specs.View.{items_of}
use Rattle.schema.specs.Shape.{shape}
use Rattle.objects.specs.Managers.{pairs}
use Rattle.objects.proofs.Objects.{value_of, entries_map}
use Rattle.objects.proofs.object.entry_items.Goals as goal

pub returns : goal.returns
returns c =
    let s = shape c.args.schema.now in
    let a = c.args.api_version.now in
    let es = c.args.entries.now in
    ap items_of (c.loop-entry.invariant ∙ ap (λ l. map (value_of s a) (pairs l)) (take_all c.loop-entry.entry-index es c.loop-entry-test.false)) ∙ entries_map s a (pairs es)
