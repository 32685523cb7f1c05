use Rattle.std.proofs.Common.{sym, ap, ◌∙◌}
use Rattle.std.proofs.lemmas.List.{drop_all}
use Rattle.schema.specs.Becoming.{fields_become}
use Rattle.schema.specs.Shape.{fields_in}
use Rattle.api_types.proofs.Pairs.{no_field_left}
use Rattle.api_types.proofs.becoming.+becomes.Goals as goal

pub fields_become-returns : goal.fields_become-returns
fields_become-returns t c =
    no_field_left c.loop-name.left.now c.is_empty.result c.is_empty.ensures
    ∙ ap (λ fs. fields_become c.args.rises (fields_in fs) (fields_in c.loop-name.left.now)) (sym (drop_all c.loop-name.name-index c.args.fields.now c.loop-name-test.false)) ∙ c.loop-name.invariant
