use Rattle.std.proofs.Common.{ap, refl, ◌∙◌}
use Rattle.pathmap.specs.Insides.{heads}
use Rattle.pathmap.specs.Maps.{content}
use Rattle.schema.specs.Shape.{list_of, set}
use Rattle.typed.specs.Printing.{scalar_in}
use Rattle.typed.specs.Writes.{with_items}
use Rattle.typed.proofs.ItemTexts.{all_scalars}
use Rattle.typed.proofs.Wholes.{weaker}
use Rattle.typed.proofs.Writes.{array_wrote}
use Rattle.typed.proofs.write_items.write_set.Goals as goal

pub returns : goal.returns
returns c = λ s there.
    let whole = content c.args.map.now in
    let wrote = c.in_ok-push_scalars.ensures (all_scalars s whole there.0) ∙ ap (with_items scalar_in (heads whole)) c.in_ok-begin_array.ensures in
    weaker c.end_array.result (λ closed. closed ∙ array_wrote (list_of s set) whole there scalar_in (heads whole) c.args.out.now c.push_scalars.new.out refl wrote) c.end_array.ensures
