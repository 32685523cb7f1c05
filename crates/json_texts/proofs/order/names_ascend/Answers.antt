use Rattle.std.proofs.Common.{◌≡◌, sym, ap, ◌∙◌, nat_cmp, rules, tests}
use Rattle.std.proofs.lemmas.List.Sorted.{answers_always}
use Rattle.std.specs.Cmp.Lexicographic.{slice_cmp}
use Rattle.std.specs.Ordering.{is_lt}
use Rattle.fieldpath.specs.Scalars.{ascend}
use Rattle.fieldpath.proofs.Ascending.{ascend_by_neighbours}
use Rattle.json_texts.proofs.Parts.{Entry, names-members}
use Rattle.json_texts.proofs.order.names_ascend.Goals as goal

pub returns : goal.returns
returns c =
    ascend_by_neighbours (λ (m : Entry). m.0.now) c.args.members.now c.is_sorted_by.result
    (c.is_sorted_by.ensures.cases (λ x y. is_lt (slice_cmp nat_cmp x.0.now y.0.now))
    (answers_always _ (λ a r. r ≡ is_lt (slice_cmp nat_cmp a.0.now.0.now a.1.0.now.0.now)) _ (λ f a r g k. search (rules, tests))))
    ∙ ap ascend (sym (names-members c.args.members.now))
