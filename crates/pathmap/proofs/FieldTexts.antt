-- The text of an element beside that of a field.
use Rattle.std.proofs.Common.{◌≡◌, ℕ, Bool, true, false, cond, is_lt, nat_cmp, List, [], ◌∷◌, take, drop, take-append-drop, Option, Some, None, refl, sym, ap, ◌++◌, ◌∙◌, Ordering, Less, Equal, Greater, true≢false}
use Rattle.std.specs.Cmp.Lexicographic.{slice_cmp}
use Rattle.std.specs.Ordering.{ordering_then}
use Rattle.std.specs.Str.{bytes_eq}
use Rattle.std.proofs.lemmas.Slice.Eq.{bytes_eq-Decides}
use Rattle.fieldpath.specs.Elements.{field_name, has_prefix, name_text}
use Rattle.pathmap.proofs.Merging.{equal_is}

-- ---- a field's

split : (b : Bool) (s t : List ℕ) → has_prefix 102 s ≡ b → Some t ≡ cond b (Some (drop 2 s)) None → s ≡ 102 ∷ 58 ∷ t
split true s t is h = sym (take-append-drop 2 s) ∙ ap (λ l. l ++ drop 2 s) ((bytes_eq-Decides (take 2 s) (102 ∷ 58 ∷ [])).0 is) ∙ ap (λ (o : Option (List ℕ)). 102 ∷ 58 ∷ elem o) (sym h)
  where
    elem : Option (List ℕ) → List ℕ
    elem None = t
    elem (Some u) = u
split false s t is h = absurd cc

-- its text is the prefix and its name
pub name_of : (s t : List ℕ) → Some t ≡ field_name s → s ≡ 102 ∷ 58 ∷ t
name_of s t h = split (has_prefix 102 s) s t refl h

pub before_name : (s t f : List ℕ) → Some t ≡ field_name s → is_lt (slice_cmp nat_cmp t f) ≡ is_lt (slice_cmp nat_cmp s (name_text f))
unfolding name_text
before_name s t f h = sym (ap (λ u. is_lt (slice_cmp nat_cmp u (102 ∷ 58 ∷ f))) (name_of s t h))

pub same_name : (s t f : List ℕ) → Some t ≡ field_name s → bytes_eq t f ≡ bytes_eq s (name_text f)
unfolding name_text
same_name s t f h = sym (ap (λ u. bytes_eq u (102 ∷ 58 ∷ f)) (name_of s t h))

-- ---- any other

other : (s : List ℕ) → None ≡ field_name s → has_prefix 102 s ≡ false
other s h = by_test (has_prefix 102 s) h
  where
    by_test : (b : Bool) → None ≡ cond b (Some (drop 2 s)) None → b ≡ false
    by_test true e = absurd cc
    by_test false e = refl

-- a text that differs from the prefix stands on the same side of all texts behind it
beside : (s f : List ℕ) → has_prefix 102 s ≡ false → is_lt (slice_cmp nat_cmp s (102 ∷ 58 ∷ [])) ≡ is_lt (slice_cmp nat_cmp s (102 ∷ 58 ∷ f))
beside [] f is = refl
beside (a ∷ []) f is = refl
beside (a ∷ b ∷ s) f is = by_first (nat_cmp a 102) (nat_cmp b 58) refl refl
  where
    by_first : (o p : Ordering) → nat_cmp a 102 ≡ o → nat_cmp b 58 ≡ p → is_lt (ordering_then (nat_cmp a 102) (ordering_then (nat_cmp b 58) (slice_cmp nat_cmp s []))) ≡ is_lt (ordering_then (nat_cmp a 102) (ordering_then (nat_cmp b 58) (slice_cmp nat_cmp s f)))
    by_first Less p first second = rw first refl
    by_first Greater p first second = rw first refl
    by_first Equal Less first second = rw (first, second) refl
    by_first Equal Greater first second = rw (first, second) refl
    by_first Equal Equal first second = absurd (true≢false (sym (equal_is (a ∷ b ∷ []) (102 ∷ 58 ∷ []) (rw (first, second) refl)) ∙ is))

pub before_others : (s f : List ℕ) → None ≡ field_name s → is_lt (slice_cmp nat_cmp s (102 ∷ 58 ∷ [])) ≡ is_lt (slice_cmp nat_cmp s (name_text f))
unfolding name_text
before_others s f h = beside s f (other s h)

pub other_name : (s f : List ℕ) → None ≡ field_name s → false ≡ bytes_eq s (name_text f)
unfolding name_text
other_name s f h = by_test (bytes_eq s (102 ∷ 58 ∷ f)) refl
  where
    by_test : (b : Bool) → bytes_eq s (102 ∷ 58 ∷ f) ≡ b → false ≡ bytes_eq s (102 ∷ 58 ∷ f)
    by_test false is = sym is
    by_test true is = absurd (true≢false (sym (ap (has_prefix 102) ((bytes_eq-Decides s (102 ∷ 58 ∷ f)).0 is)) ∙ other s h))
