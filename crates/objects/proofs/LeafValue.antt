-- Whether owned paths stand in a content, entry by entry.
use Rattle.std.proofs.Common.{◌≡◌, Bool, true, false, not, ◌&&◌, [], ◌∷◌, Option, Some, None, refl, sym, ap, ◌∙◌, true≢false, ◌↔◌}
use Rattle.std.specs.FinMap as fin
use Rattle.std.specs.FinSet as set
use Rattle.std.specs.List.{AllByRecursion}
use Rattle.std.specs.Option.{unwrap_or}
use Rattle.fieldpath.specs.Paths.{PathTexts, path_cmp}
use Rattle.pathmap.specs.Beside.{is_within}
use Rattle.pathmap.specs.Contents.{PathSet, dom}
use Rattle.pathmap.proofs.Contents.{path_cmp_total}
use Rattle.pathmap.proofs.Sets.{contains-dom, within_at, without_path}
use Rattle.objects.specs.State.{State}
use Rattle.typed.specs.Fitting.{IsPresent}
use Rattle.objects.specs.WellTyped.{OwnedArePresent}
use Rattle.objects.specs.Owners.{Manager, owned_by}
use Rattle.objects.specs.Parts.{all_within}
use Rattle.objects.proofs.Entries.{Pairs}
use Rattle.objects.proofs.Rising.{all_found, found_of_all}
use Rattle.objects.proofs.Within.{left_true, right_true, both_true, none_left}

within_has : (s t : PathSet) (q : PathTexts) → is_within s t ≡ true → set.contains s q ≡ true → set.contains t q ≡ true
within_has s t q h there = none_left (set.contains t q) (ap (λ a. a && not (set.contains t q)) (sym there) ∙ within_at s t h q)

all_have : (s t : PathSet) → ((q : PathTexts) → set.contains s q ≡ true → set.contains t q ≡ true) → is_within s t ≡ true
all_have s t have = without_path (set.difference s t) (λ q. set.contains-difference path_cmp_total s t q ∙ by_test (set.contains s q) (set.contains t q) (have q))
  where
    by_test : (a b : Bool) → (a ≡ true → b ≡ true) → (a && not b) ≡ false
    by_test true true h = refl
    by_test true false h = absurd (true≢false (sym (h refl)))
    by_test false b h = refl

each_within : (paths : PathSet) (es : Pairs) → all_within paths es ≡ true → AllByRecursion (λ e. is_within e.1 paths ≡ true) es
each_within paths [] h = tt
each_within paths (e ∷ es) h = (left_true (is_within e.1 paths) (all_within paths es) h, each_within paths es (right_true (is_within e.1 paths) (all_within paths es) h))

all_are : (paths : PathSet) (es : Pairs) → AllByRecursion (λ e. is_within e.1 paths ≡ true) es → all_within paths es ≡ true
all_are paths [] h = refl
all_are paths (e ∷ es) h = both_true _ _ h.0 (all_are paths es h.1)

-- an entry's paths are owned
owned_entry : (state : State) (k : Manager) (paths : PathSet) (p : PathTexts) → fin.get state.owners k ≡ Some paths → set.contains paths p ≡ true → set.contains (owned_by state.owners k) p ≡ true
unfolding owned_by
owned_entry state k paths p is there = ap (λ o. set.contains (unwrap_or o set.empty) p) is ∙ there

pub entries_stand : (state : State) → OwnedArePresent state → (k : Manager) (paths : PathSet) → fin.get state.owners k ≡ Some paths → (p : PathTexts) → set.contains paths p ≡ true → IsPresent state.content p
entries_stand state stand k paths is p there = stand k p (owned_entry state k paths p is there)

module _ (state : State) where
  within_stand : all_within (dom state.content) (fin.entries state.owners) ≡ true → OwnedArePresent state
  unfolding owned_by
  within_stand h k p owns = by_entry (fin.get state.owners k) refl owns
    where
      by_entry : (o : Option PathSet) → fin.get state.owners k ≡ o → set.contains (unwrap_or o set.empty) p ≡ true → IsPresent state.content p
      by_entry None is there = absurd (true≢false (sym there ∙ set.contains-empty path_cmp p))
      by_entry (Some s) is there =
          let inside = found_of_all (λ k t. is_within t (dom state.content) ≡ true) (fin.entries state.owners) (each_within (dom state.content) (fin.entries state.owners) h) k s (sym (fin.get-entries state.owners k) ∙ is) in
          sym (contains-dom state.content p) ∙ within_has s (dom state.content) p inside there

  stand_within : OwnedArePresent state → all_within (dom state.content) (fin.entries state.owners) ≡ true
  stand_within stand =
      all_are (dom state.content) (fin.entries state.owners) (all_found (λ k t. is_within t (dom state.content) ≡ true) (fin.entries state.owners) (fin.entries_sorted state.owners)
      (λ k paths is. all_have paths (dom state.content) (λ p there. contains-dom state.content p ∙ entries_stand state stand k paths (fin.get-entries state.owners k ∙ is) p there)))

  -- the test is true exactly where owned paths stand
  pub stand_decided : (b : Bool) → b ≡ all_within (dom state.content) (fin.entries state.owners) → (b ≡ true) ↔ OwnedArePresent state
  stand_decided b is = (λ e. within_stand (sym is ∙ e), λ stand. is ∙ stand_within stand)
