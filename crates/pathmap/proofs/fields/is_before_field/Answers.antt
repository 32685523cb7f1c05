use Rattle.std.proofs.Common.{[], ◌∷◌, string_bytes, ap, ◌∙◌}
use Rattle.std.specs.Ordering.{is_lt, nat_cmp}
use Rattle.std.specs.Cmp.Lexicographic.{slice_cmp}
use Rattle.pathmap.proofs.FieldTexts.{before_name, before_others}
use Rattle.pathmap.proofs.fields.is_before_field.Goals as goal

pub returns-in-Some : goal.returns-in-Some
returns-in-Some c = c.lt.ensures ∙ before_name (string_bytes c.args.child.now.0) c.in-Some.known.now c.args.name.now c.in-Some.ensures

pub returns-in-None : goal.returns-in-None
returns-in-None c =
    let s = string_bytes c.args.child.now.0 in
    c.lt-in-None.ensures ∙ ap (λ t. is_lt (slice_cmp nat_cmp t (102 ∷ 58 ∷ []))) c.as_str.ensures.value ∙ before_others s c.args.name.now c.in-None.ensures
