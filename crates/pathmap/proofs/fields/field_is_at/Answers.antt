use Rattle.std.proofs.Common.{◌≤◌, length, Some, None, cond, sym, ap, subst, ◌∙◌, string_bytes, arith}
use Rattle.std.specs.Str.{bytes_eq}
use Rattle.fieldpath.specs.Elements.{name_text}
use Rattle.pathmap.proofs.Halving.{at_prefix, from_none, past_prefix}
use Rattle.pathmap.proofs.fields.field_is_at.Goals as goal

pub returns-then-place-below-clause-index : goal.returns-then-place-below-clause-index
returns-then-place-below-clause-index c = λ rises at.
    past_prefix 0 (name_text c.args.name.now) c.args.below.now rises (subst (λ n. length c.args.below.now ≤ n) at c.if-place-below.true)

pub returns-clause-index : goal.returns-clause-index
returns-clause-index c = λ rises at.
    let f = name_text c.args.name.now in
    let e = c.index-below-place.result in
    let in_it = c.if-place-below.false in
    at_prefix 0 f c.args.below.now c.args.place e rises at (omega (arith, in_it)) c.index-below-place.is ∙ ap (λ m. cond (bytes_eq (string_bytes e.0) f) (Some m) None) (sym (from_none c.args.place))
    ∙ ap (λ b. cond b (Some c.args.place) None) (sym c.is_of_field.ensures)
