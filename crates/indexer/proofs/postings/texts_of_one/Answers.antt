use Rattle.std.proofs.Common.{◌≡◌, ◌↔◌, ◌∙◌, ◌++◌, true, List, [], ℕ, map, nat_cmp, ap, sym, subst, append-nil}
use Rattle.std.specs.Cmp.Lexicographic.{slice_cmp}
use Rattle.std.specs.List.Sorted.{IsStrictlySortedBy}
use Rattle.indexer.specs.declared.object.ObjectKey.{ObjectKey}
use Rattle.indexer.specs.Objects.{is_among}
use Rattle.indexer.specs.Postings.{under}
use Rattle.indexer.proofs.Shown.{Row, shown, shown_ascends, shown_just}
use Rattle.indexer.proofs.postings.texts_of_one.Goals as goal

whole : (emitted : List (List ℕ)) (rows left : List Row) → [] ≡ left → emitted ++ shown left ≡ shown rows → emitted ≡ shown rows
whole emitted rows left none is = sym (append-nil emitted) ∙ ap (λ (rest : List Row). emitted ++ shown rest) none ∙ is

pub returns-clause-members : goal.returns-clause-members
returns-clause-members c = λ k.
    let postings = c.args.postings.now in
    let emitted = map (λ t. t.now) c.loop-text.texts.items in
    let all = whole emitted postings.entries _ (sym c.in-None.ensures.steps.0) c.loop-text.invariant in
    subst (λ (ts : List (List ℕ)). (is_among ts k ≡ true) ↔ ((q : ObjectKey) × (under postings k q ≡ true))) (sym all) (shown_just postings c.iter-text-items.ensures.found k)

pub returns-clause-ascending : goal.returns-clause-ascending
returns-clause-ascending c =
    let postings = c.args.postings.now in
    let emitted = map (λ t. t.now) c.loop-text.texts.items in
    let all = whole emitted postings.entries _ (sym c.in-None.ensures.steps.0) c.loop-text.invariant in
    subst (IsStrictlySortedBy (slice_cmp nat_cmp)) (sym all) (shown_ascends postings.entries c.iter-text-items.ensures.ordered)
