use Rattle.std.proofs.Common.{sym, ap, ap₂, ◌∙◌}
use Rattle.std.specs.Float.Ieee
use Rattle.serde_json.specs.View.{number_view}
use Rattle.json_patch.specs.Equality.{whole}
use Rattle.json_patch.proofs.Exactly.{first_integer, neither_integer, second_integer, two_integers}
use Rattle.json_patch.proofs.numbers.same_number.Goals as goal

pub returns-in-Some-Some : goal.returns-in-Some-Some
returns-in-Some-Some c =
    c.same_integer.ensures
    ∙ two_integers (number_view c.args.a.now) (number_view c.args.b.now) c.in-Some-Some.a c.in-Some-Some.b (sym c.in-Some-Some.is-0 ∙ c.integer.ensures) (sym c.in-Some-Some.is-1 ∙ c.integer-2.ensures)

pub returns-in-Some-None : goal.returns-in-Some-None
returns-in-Some-None c =
    c.is_integer.ensures ∙ ap (Ieee.eq (whole c.in-Some-None.a)) c.nearest_float.ensures
    ∙ first_integer (number_view c.args.a.now) (number_view c.args.b.now) c.in-Some-None.a (sym c.in-Some-None.is-0 ∙ c.integer.ensures) (sym c.in-Some-None.is-1 ∙ c.integer-2.ensures)

pub returns-in-None-Some : goal.returns-in-None-Some
returns-in-None-Some c =
    c.is_integer-in-None-Some.ensures ∙ ap (Ieee.eq (whole c.in-None-Some.b)) c.nearest_float-in-None-Some.ensures
    ∙ second_integer (number_view c.args.a.now) (number_view c.args.b.now) c.in-None-Some.b (sym c.in-None-Some.is-0 ∙ c.integer.ensures) (sym c.in-None-Some.is-1 ∙ c.integer-2.ensures)

pub returns-in-None-None : goal.returns-in-None-None
returns-in-None-None c =
    ap₂ Ieee.eq c.nearest_float-in-None-None.ensures c.nearest_float-in-None-None-2.ensures
    ∙ neither_integer (number_view c.args.a.now) (number_view c.args.b.now) (sym c.in-None-None.is-0 ∙ c.integer.ensures) (sym c.in-None-None.is-1 ∙ c.integer-2.ensures)
