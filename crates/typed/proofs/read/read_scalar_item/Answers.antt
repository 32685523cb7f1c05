use Rattle.std.proofs.Common.{sym, subst, ap}
use Rattle.fieldpath.specs.Elements.{set_item_text}
use Rattle.pathmap.specs.Contents.{nothing}
use Rattle.typed.specs.Faults.{Returns, and_then}
use Rattle.typed.specs.Reading.{named_item}
use Rattle.typed.specs.Steps.{item_view}
use Rattle.typed.proofs.read.read_scalar_item.Goals as goal

pub returns : goal.returns
returns c =
    subst (Returns item_view c.set_item.result) (sym (ap (λ r. and_then r (λ x. named_item (set_item_text x) nothing)) c.in_ok-scalar.ensures)) c.set_item.ensures
