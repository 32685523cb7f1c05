use Rattle.std.proofs.Common.{◌≡◌, string_bytes, sym, ap, ◌∙◌, nat_cmp, rules, tests}
use Rattle.std.proofs.lemmas.List.Sorted.{answers_always}
use Rattle.std.specs.Cmp.Lexicographic.{slice_cmp}
use Rattle.std.specs.Ordering.{is_lt}
use Rattle.fieldpath.specs.Scalars.{ascend}
use Rattle.fieldpath.proofs.Ascending.{ascend_by_neighbours}
use Rattle.schema.proofs.Shapes.{names_of-fields_in}
use Rattle.api_types.proofs.lawful.fields_ascend.Goals as goal

pub returns : goal.returns
returns c =
    ascend_by_neighbours (λ f. string_bytes f.0) c.args.fields.now c.is_sorted_by.result
    (c.is_sorted_by.ensures.cases (λ x y. is_lt (slice_cmp nat_cmp (string_bytes x.0) (string_bytes y.0)))
    (answers_always _ (λ a r. r ≡ is_lt (slice_cmp nat_cmp (string_bytes a.0.now.0) (string_bytes a.1.0.now.0))) _ (λ f a r g k. search (rules, tests))))
    ∙ ap ascend (sym (names_of-fields_in c.args.fields.now))
