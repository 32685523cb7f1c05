use Rattle.std.proofs.Common.{ap, sym, ◌∙◌, option_map}
use Rattle.pathmap.specs.Maps.{content_or_nothing}
use Rattle.schema.specs.Shape.{shape}
use Rattle.typed.specs.Printing.{print}
use Rattle.typed.proofs.Prints.{print-nothing}
use Rattle.typed.proofs.print.print_below.Goals as goal

pub returns-in-None : goal.returns-in-None
returns-in-None c =
    let s = shape c.args.inner.now in
    sym (ap (print s) (sym c.field.ensures.inside ∙ ap (λ o. content_or_nothing (option_map (λ m. m.now) o)) c.in-None.is) ∙ print-nothing s)
