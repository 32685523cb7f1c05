-- Sets of paths, and the paths that have a value.
use Rattle.std.proofs.Common.{◌≡◌, ◌==◌, eqb-true, ℕ, Bool, true, false, not, ◌&&◌, ◌||◌, List, [], ◌∷◌, map, Option, Some, None, is_some, is_eq, refl, sym, ap, ap₂, ◌∙◌, true≢false, cond}
use Rattle.std.specs.Cmp.{Equal-is, both_ways, first_so, second_so, tied_itself}
use Rattle.std.specs.Ordering.{eq_by_cmp}
use Rattle.std.specs.List.{list_any}
use Rattle.std.specs.Str.{bytes_eq}
use Rattle.std.specs.FinMap as fin
use Rattle.std.specs.FinSet as set
use Rattle.std.proofs.lemmas.Slice.Eq.{bytes_eq-Decides}
use Rattle.fieldpath.specs.Paths.{PathTexts, path_cmp}
use Rattle.pathmap.specs.Contents.{LeafValue, Content, PathSet, nothing, over, dom}
use Rattle.pathmap.specs.Beside.{same_value, changed, is_empty, is_within, is_prefix, has_at_or_below, has_at_or_above, without, clear_of}
use Rattle.pathmap.proofs.Contents.{path_cmp_total, path_cmp_antisymmetric, same, either, get-nothing, get-over}

pub same_paths : (s t : PathSet) → ((q : PathTexts) → set.contains s q ≡ set.contains t q) → s ≡ t
same_paths = set.same_set path_cmp_total path_cmp_antisymmetric

pub contains-dom : (c : Content) (q : PathTexts) → set.contains (dom c) q ≡ is_some (fin.get c q)
unfolding dom
contains-dom c q = set.contains-from_list path_cmp_total (map (λ e. e.0) (fin.entries c)) q ∙ sym (fin.contains_key-keys c q)

pub contains-where : (s : PathSet) (p : PathTexts → Bool) (q : PathTexts) → set.contains (set.retain s p) q ≡ (set.contains s q && p q)
contains-where s p q = set.contains-retain s p q (λ x t. ap p (sym (path_cmp_antisymmetric q x t)))

-- ---- sets without a path

pub no_paths : (s : PathSet) → is_empty s ≡ true → s ≡ set.empty
no_paths s none = set.empty_of_len s (eqb-true (set.len s) 0 none)

pub has_no_path : (s : PathSet) → is_empty s ≡ true → (q : PathTexts) → set.contains s q ≡ false
has_no_path s none q = ap (λ t. set.contains t q) (no_paths s none) ∙ set.contains-empty path_cmp q

pub without_path : (s : PathSet) → ((q : PathTexts) → set.contains s q ≡ false) → is_empty s ≡ true
without_path s none = ap (λ t. set.len t == 0) (same_paths s set.empty (λ q. none q ∙ sym (set.contains-empty path_cmp q))) ∙ ap (λ n. n == 0) (set.len-empty path_cmp)

-- no path of the first set is outside of the second
pub within_at : (s t : PathSet) → is_within s t ≡ true → (q : PathTexts) → (set.contains s q && not (set.contains t q)) ≡ false
within_at s t all q = sym (set.contains-difference path_cmp_total s t q) ∙ has_no_path (set.difference s t) all q

-- ---- the paths of contents side by side

pub contains-changed : (c d : Content) (q : PathTexts) → set.contains (changed c d) q ≡ (is_some (fin.get c q) && not (same_value (fin.get c q) (fin.get d q)))
unfolding changed
contains-changed c d q = contains-where (dom c) (λ p. not (same_value (fin.get c p) (fin.get d p))) q ∙ ap (λ b. b && not (same_value (fin.get c q) (fin.get d q))) (contains-dom c q)

pub contains-clear_of : (s t : PathSet) (q : PathTexts) → set.contains (clear_of s t) q ≡ (set.contains s q && not (has_at_or_below t q))
unfolding clear_of
contains-clear_of s t q = contains-where s (λ p. not (has_at_or_below t p)) q

pub get-without : (c : Content) (s : PathSet) (q : PathTexts) → fin.get (without c s) q ≡ cond (has_at_or_above s q) None (fin.get c q)
unfolding without
get-without c s q = fin.get-retain_keys c (λ p. not (has_at_or_above s p)) q (λ x t. ap (λ p. not (has_at_or_above s p)) (sym (path_cmp_antisymmetric q x t))) ∙ turned (has_at_or_above s q)
  where
    turned : (b : Bool) → cond (not b) (fin.get c q) None ≡ cond b None (fin.get c q)
    turned true = refl
    turned false = refl

-- ---- one of the paths of a set passes a test

pub or_true : (b : Bool) → (b || true) ≡ true
or_true true = refl
or_true false = refl

module _ (p : PathTexts → Bool) where
  some_of : (xs : List PathTexts) → list_any p xs ≡ true → (q : PathTexts) × (list_any (eq_by_cmp path_cmp q) xs ≡ true) × (p q ≡ true)
  some_of [] h = absurd (true≢false (sym h))
  some_of (x ∷ xs) h = by_first (some_of xs) (p x) refl h
    where
      by_first : (list_any p xs ≡ true → (q : PathTexts) × (list_any (eq_by_cmp path_cmp q) xs ≡ true) × (p q ≡ true)) → (b : Bool) → p x ≡ b → (b || list_any p xs) ≡ true
          → (q : PathTexts) × ((eq_by_cmp path_cmp q x || list_any (eq_by_cmp path_cmp q) xs) ≡ true) × (p q ≡ true)
      by_first later true is h = (x, ap (λ o. is_eq o || list_any (eq_by_cmp path_cmp x) xs) (tied_itself path_cmp_total x), is)
      by_first later false is h = let found = later h in (found.0, ap (λ b. eq_by_cmp path_cmp found.0 x || b) found.1 ∙ or_true (eq_by_cmp path_cmp found.0 x), found.2)

  one_of : (q : PathTexts) → p q ≡ true → (xs : List PathTexts) → list_any (eq_by_cmp path_cmp q) xs ≡ true → list_any p xs ≡ true
  one_of q h [] is = is
  one_of q h (x ∷ xs) is = by_first (one_of q h xs) (eq_by_cmp path_cmp q x) refl is
    where
      by_first : (list_any (eq_by_cmp path_cmp q) xs ≡ true → list_any p xs ≡ true) → (b : Bool) → eq_by_cmp path_cmp q x ≡ b → (b || list_any (eq_by_cmp path_cmp q) xs) ≡ true → (p x || list_any p xs) ≡ true
      by_first later true tie is = ap (λ b. b || list_any p xs) (ap p (sym (path_cmp_antisymmetric q x ((Equal-is (path_cmp q x)).0 tie))) ∙ h)
      by_first later false tie is = ap (λ b. p x || b) (later is) ∙ or_true (p x)

  pub passes_some : (c : Content) → list_any p (set.items (dom c)) ≡ true → (q : PathTexts) × (is_some (fin.get c q) ≡ true) × (p q ≡ true)
  passes_some c h = let found = some_of (set.items (dom c)) h in (found.0, sym (contains-dom c found.0) ∙ set.contains-items (dom c) found.0 ∙ found.1, found.2)

  pub passes_one : (c : Content) (q : PathTexts) → is_some (fin.get c q) ≡ true → p q ≡ true → list_any p (set.items (dom c)) ≡ true
  passes_one c q is h = one_of q h (set.items (dom c)) (sym (set.contains-items (dom c) q) ∙ contains-dom c q ∙ is)

-- ---- prefixes, one element down

-- d is what stands in c below g
abbrev pub IsBelow : List ℕ → Content → Content → Type 0
IsBelow g c d = (q : PathTexts) → fin.get d q ≡ fin.get c (g ∷ q)

module _ (g : List ℕ) (c d : Content) (below : IsBelow g c d) where
  at_other : (f : List ℕ) (q : PathTexts) → f ≡ g → is_some (fin.get c (f ∷ q)) ≡ true → is_some (fin.get d q) ≡ true
  at_other f q alike is = ap is_some (below q ∙ ap (λ e. fin.get c (e ∷ q)) (sym alike)) ∙ is

  at_this : (q : PathTexts) → is_some (fin.get d q) ≡ true → is_some (fin.get c (g ∷ q)) ≡ true
  at_this q is = ap is_some (sym (below q)) ∙ is

  itself : bytes_eq g g ≡ true
  itself = (bytes_eq-Decides g g).1 refl

  pub has_below-at : (p : PathTexts) → has_at_or_below (dom c) (g ∷ p) ≡ has_at_or_below (dom d) p
  unfolding has_at_or_below
  has_below-at p = both_ways (list_any (is_prefix (g ∷ p)) (set.items (dom c))) (list_any (is_prefix p) (set.items (dom d))) (λ h. let found = passes_some (is_prefix (g ∷ p)) c h in into found.0 found.1 found.2)
      (λ h. let found = passes_some (is_prefix p) d h in passes_one (is_prefix (g ∷ p)) c (g ∷ found.0) (at_this found.0 found.1) (ap (λ b. b && is_prefix p found.0) itself ∙ found.2))
    where
      into : (q : PathTexts) → is_some (fin.get c q) ≡ true → is_prefix (g ∷ p) q ≡ true → list_any (is_prefix p) (set.items (dom d)) ≡ true
      into [] is h = absurd (true≢false (sym h))
      into (f ∷ q) is h = passes_one (is_prefix p) d q (at_other f q (sym ((bytes_eq-Decides g f).0 (first_so (bytes_eq g f) (is_prefix p q) h))) is) (second_so (bytes_eq g f) (is_prefix p q) h)

  pub has_above-at : (q : PathTexts) → has_at_or_above (dom c) (g ∷ q) ≡ (is_some (fin.get c []) || has_at_or_above (dom d) q)
  unfolding has_at_or_above
  has_above-at q = both_ways (list_any (λ p. is_prefix p (g ∷ q)) (set.items (dom c))) (is_some (fin.get c []) || list_any (λ p. is_prefix p q) (set.items (dom d)))
      (λ h. let found = passes_some (λ p. is_prefix p (g ∷ q)) c h in into found.0 found.1 found.2) (out (is_some (fin.get c [])) refl)
    where
      into : (p : PathTexts) → is_some (fin.get c p) ≡ true → is_prefix p (g ∷ q) ≡ true → (is_some (fin.get c []) || list_any (λ p. is_prefix p q) (set.items (dom d))) ≡ true
      into [] is h = ap (λ b. b || list_any (λ p. is_prefix p q) (set.items (dom d))) is
      into (f ∷ p) is h =
          ap (λ b. is_some (fin.get c []) || b) (passes_one (λ p. is_prefix p q) d p (at_other f p ((bytes_eq-Decides f g).0 (first_so (bytes_eq f g) (is_prefix p q) h)) is) (second_so (bytes_eq f g) (is_prefix p q) h))
          ∙ or_true (is_some (fin.get c []))

      out : (b : Bool) → is_some (fin.get c []) ≡ b → (b || list_any (λ p. is_prefix p q) (set.items (dom d))) ≡ true → list_any (λ p. is_prefix p (g ∷ q)) (set.items (dom c)) ≡ true
      out true is h = passes_one (λ p. is_prefix p (g ∷ q)) c [] is refl
      out false is h = let found = passes_some (λ p. is_prefix p q) d h in passes_one (λ p. is_prefix p (g ∷ q)) c (g ∷ found.0) (at_this found.0 found.1) (ap (λ b. b && is_prefix found.0 q) itself ∙ found.2)

pub has_above-top : (c : Content) → has_at_or_above (dom c) [] ≡ is_some (fin.get c [])
unfolding has_at_or_above
has_above-top c = both_ways (list_any (λ p. is_prefix p []) (set.items (dom c))) (is_some (fin.get c [])) (λ h. let found = passes_some (λ p. is_prefix p []) c h in into found.0 found.1 found.2) (λ is. passes_one (λ p. is_prefix p []) c [] is refl)
  where
    into : (p : PathTexts) → is_some (fin.get c p) ≡ true → is_prefix p [] ≡ true → is_some (fin.get c []) ≡ true
    into [] is h = is
    into (f ∷ p) is h = absurd (true≢false (sym h))

-- ---- no path at all

pub has_any : (c : Content) (q : PathTexts) → is_some (fin.get c q) ≡ true → has_at_or_below (dom c) [] ≡ true
unfolding has_at_or_below
has_any c q is = passes_one (is_prefix []) c q is refl

pub has_none : (c : Content) → has_at_or_below (dom c) [] ≡ false → c ≡ nothing
has_none c h = same c nothing (λ q. by_value q (fin.get c q) refl ∙ sym (get-nothing q))
  where
    by_value : (q : PathTexts) (o : Option LeafValue) → fin.get c q ≡ o → fin.get c q ≡ None
    by_value q None is = is
    by_value q (Some v) is = absurd (true≢false (sym (has_any c q (ap is_some is)) ∙ h))

pub nothing-has : has_at_or_below (dom nothing) [] ≡ false
unfolding has_at_or_below
nothing-has = by_answer (list_any (is_prefix []) (set.items (dom nothing))) refl
  where
    by_answer : (b : Bool) → list_any (is_prefix []) (set.items (dom nothing)) ≡ b → b ≡ false
    by_answer true h = let found = passes_some (is_prefix []) nothing h in absurd (true≢false (sym found.1 ∙ ap is_some (get-nothing found.0)))
    by_answer false h = refl

-- ---- the paths of maps put together

pub dom-nothing : dom nothing ≡ set.empty
dom-nothing = same_paths (dom nothing) set.empty (λ q. contains-dom nothing q ∙ ap is_some (get-nothing q) ∙ sym (set.contains-empty path_cmp q))

pub dom-over : (c d : Content) → dom (over c d) ≡ set.union (dom c) (dom d)
dom-over c d = same_paths (dom (over c d)) (set.union (dom c) (dom d)) (λ q.
    contains-dom (over c d) q ∙ ap is_some (get-over c d q) ∙ some_either (fin.get c q) (fin.get d q) ∙ ap₂ (λ a b. a || b) (sym (contains-dom c q)) (sym (contains-dom d q))
    ∙ sym (set.contains-union path_cmp_total (dom c) (dom d) q))
  where
    some_either : (a b : Option LeafValue) → is_some (either a b) ≡ (is_some a || is_some b)
    some_either None b = refl
    some_either (Some v) b = refl

pub dom_empty : (c : Content) → dom c ≡ set.empty → c ≡ nothing
dom_empty c e = same c nothing (λ q. by_value q (fin.get c q) refl ∙ sym (get-nothing q))
  where
    by_value : (q : PathTexts) (o : Option LeafValue) → fin.get c q ≡ o → fin.get c q ≡ None
    by_value q None is = is
    by_value q (Some v) is = absurd (true≢false (sym (ap is_some is) ∙ sym (contains-dom c q) ∙ ap (λ s. set.contains s q) e ∙ set.contains-empty path_cmp q))

pub dom-insert : (c : Content) (p : PathTexts) (v : LeafValue) → dom (fin.insert c p v) ≡ set.insert (dom c) p
dom-insert c p v = same_paths (dom (fin.insert c p v)) (set.insert (dom c) p) (λ q.
    contains-dom (fin.insert c p v) q ∙ ap is_some (fin.get-insert path_cmp_total c p v q) ∙ some_cond (eq_by_cmp path_cmp q p) (fin.get c q) ∙ ap (λ b. eq_by_cmp path_cmp q p || b) (sym (contains-dom c q))
    ∙ sym (set.contains-insert path_cmp_total (dom c) p q))
  where
    some_cond : (b : Bool) (o : Option LeafValue) → is_some (cond b (Some v) o) ≡ (b || is_some o)
    some_cond true o = refl
    some_cond false o = refl
