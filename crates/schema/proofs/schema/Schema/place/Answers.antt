use Rattle.std.proofs.Common.{map, sym, ◌∙◌}
use Rattle.fieldpath.specs.ElementViews.{element}
use Rattle.schema.specs.Shape.{shape}
use Rattle.schema.proofs.Steps.{place-steps}
use Rattle.schema.proofs.schema.Schema.place.Goals as goal

pub returns : goal.returns
returns c = c.place_from.ensures ∙ sym (place-steps (shape c.args.self.now) c.args.path.now (map element c.elems.result.now) c.elems.ensures)
