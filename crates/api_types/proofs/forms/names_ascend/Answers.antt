use Rattle.std.proofs.Common.{◌≡◌, string_bytes, nat_cmp, rules, tests}
use Rattle.std.proofs.lemmas.List.Sorted.{answers_always}
use Rattle.std.specs.Cmp.Lexicographic.{slice_cmp}
use Rattle.std.specs.Ordering.{is_lt}
use Rattle.fieldpath.proofs.Ascending.{ascend_by_neighbours}
use Rattle.api_types.proofs.forms.names_ascend.Goals as goal

pub returns : goal.returns
returns c =
    ascend_by_neighbours string_bytes c.args.names.now c.is_sorted_by.result
    (c.is_sorted_by.ensures.cases (λ x y. is_lt (slice_cmp nat_cmp (string_bytes x) (string_bytes y)))
    (answers_always _ (λ a r. r ≡ is_lt (slice_cmp nat_cmp (string_bytes a.0.now) (string_bytes a.1.0.now))) _ (λ f a r g k. search (rules, tests))))
