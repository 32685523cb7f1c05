use Rattle.std.proofs.Common.{[], Ok, sym, ap, ◌∙◌}
use Rattle.serde_json.specs.View.{view}
use Rattle.pathmap.specs.Contents.{here}
use Rattle.pathmap.specs.Contents as leaf_value
use Rattle.schema.specs.Shape.{shape}
use Rattle.typed.specs.Faults.{below}
use Rattle.typed.specs.Reading.{leaf}
use Rattle.typed.proofs.Floats.{plain_clean}
use Rattle.typed.proofs.Atomic.{leaf-full}
use Rattle.typed.proofs.read.read_atomic.Goals as goal

pub returns : goal.returns
returns c =
    let x = view c.in_ok-plain.plain in
    let clean = plain_clean (shape c.args.schema.now) (view c.args.value.now) x c.in_ok-plain.ensures in
    ap (below [] leaf) c.in_ok-plain.ensures
    ∙ ap Ok (leaf-full x (sym c.is_empty.ensures ∙ c.if-is_empty.false) ∙ ap (λ t. here (leaf_value.plain t)) (sym (c.in_ok-to_string.ensures.text clean.1)) ∙ sym c.leaf.ensures)
