-- What is clear of several sets, one set after another.
use Rattle.std.proofs.Common.{◌≡◌, Bool, true, false, not, ◌&&◌, ◌||◌, List, [], ◌∷◌, refl, sym, ap, ◌∙◌, true≢false}
use Rattle.std.specs.Cmp.{both_ways}
use Rattle.std.specs.FinSet as set
use Rattle.fieldpath.specs.Paths.{PathTexts}
use Rattle.pathmap.specs.Contents.{PathSet}
use Rattle.pathmap.specs.Beside.{is_prefix, has_at_or_below, clear_of}
use Rattle.pathmap.proofs.Contents.{path_cmp_total}
use Rattle.pathmap.proofs.Sets.{same_paths, contains-clear_of}
use Rattle.objects.specs.Owners.{Manager}
use Rattle.ownership.specs.Apply.{all_paths, clear_of_all}
use Rattle.ownership.proofs.Keeping.{one_below, some_below}

first_or : (a b : Bool) → a ≡ true → (a || b) ≡ true
first_or a b e = ap (λ x. x || b) e

second_or : (a b : Bool) → b ≡ true → (a || b) ≡ true
second_or true b e = refl
second_or false b e = e

module _ (s t : PathSet) (p : PathTexts) where
  below_first : has_at_or_below s p ≡ true → has_at_or_below (set.union s t) p ≡ true
  below_first h =
      let found = some_below s p h in
      one_below (set.union s t) p found.0 (set.contains-union path_cmp_total s t found.0 ∙ first_or _ _ found.1) found.2

  below_second : has_at_or_below t p ≡ true → has_at_or_below (set.union s t) p ≡ true
  below_second h =
      let found = some_below t p h in
      one_below (set.union s t) p found.0 (set.contains-union path_cmp_total s t found.0 ∙ second_or _ _ found.1) found.2

  below_either : (a b : Bool) → has_at_or_below s p ≡ a → has_at_or_below t p ≡ b → (a || b) ≡ true → has_at_or_below (set.union s t) p ≡ true
  below_either true b i j h = below_first i
  below_either false true i j h = below_second j
  below_either false false i j h = absurd (true≢false (sym h))

  of_either : (q : PathTexts) (a : Bool) → set.contains s q ≡ a → (a || set.contains t q) ≡ true → is_prefix p q ≡ true → (has_at_or_below s p || has_at_or_below t p) ≡ true
  of_either q true is h prefix = first_or _ _ (one_below s p q is prefix)
  of_either q false is h prefix = second_or _ _ (one_below t p q h prefix)

  below_union : has_at_or_below (set.union s t) p ≡ (has_at_or_below s p || has_at_or_below t p)
  below_union = both_ways (has_at_or_below (set.union s t) p) (has_at_or_below s p || has_at_or_below t p)
      (λ h. let found = some_below (set.union s t) p h in of_either found.0 (set.contains s found.0) refl (sym (set.contains-union path_cmp_total s t found.0) ∙ found.1) found.2)
      (below_either (has_at_or_below s p) (has_at_or_below t p) refl refl)

one_by_one : (a b c : Bool) → (a && not (b || c)) ≡ ((a && not c) && not b)
one_by_one true true true = refl
one_by_one true true false = refl
one_by_one true false true = refl
one_by_one true false false = refl
one_by_one false b c = refl

clear_of-union : (s t u : PathSet) → clear_of s (set.union u t) ≡ clear_of (clear_of s t) u
clear_of-union s t u = same_paths (clear_of s (set.union u t)) (clear_of (clear_of s t) u) (λ q.
    contains-clear_of s (set.union u t) q ∙ ap (λ b. set.contains s q && not b) (below_union u t q) ∙ one_by_one (set.contains s q) (has_at_or_below u q) (has_at_or_below t q)
    ∙ sym (contains-clear_of (clear_of s t) u q ∙ ap (λ b. b && not (has_at_or_below u q)) (contains-clear_of s t q)))

pub clear_of-all_paths : (s t : PathSet) (es : List (Manager × PathSet)) → clear_of s (all_paths t es) ≡ clear_of_all (clear_of s t) es
clear_of-all_paths s t [] = refl
clear_of-all_paths s t (e ∷ es) = clear_of-all_paths s (set.union e.1 t) es ∙ ap (λ x. clear_of_all x es) (clear_of-union s t e.1)
