-- Fronts of lists of named contents, and lists that rise.
use Rattle.std.proofs.Common.{◌≡◌, ℕ, zero, suc, ◌+◌, ◌<◌, ◌-◌, ◌≤◌, add-one, drop-cons, get_or, Bool, true, false, cond, is_lt, nat_cmp, List, [], ◌∷◌, map, take, drop, length, String, Global, string_bytes, refl, sym, ap, ◌∙◌, arith, length-drop}
use Rattle.std.specs.Cmp.Lexicographic.{slice_cmp}
use Rattle.std.proofs.lemmas.Map.Keys.{sorted_tail}
use Rattle.pathmap.specs.Contents.{Content}
use Rattle.pathmap.specs.Levels.{IsRising}
use Rattle.pathmap.specs.Maps.{contents_in}
use Rattle.pathmap.specs.Merged.{prefix_of, back_of}

contents-take : (n : ℕ) (xs : List (String Global × Content)) → contents_in (take n xs) ≡ take n (contents_in xs)
contents-take zero xs = refl
contents-take (suc n) [] = refl
contents-take (suc n) (x ∷ xs) = ap (λ l. (string_bytes x.0, x.1) ∷ l) (contents-take n xs)

contents-drop : (n : ℕ) (xs : List (String Global × Content)) → contents_in (drop n xs) ≡ drop n (contents_in xs)
contents-drop zero xs = refl
contents-drop (suc n) [] = refl
contents-drop (suc n) (x ∷ xs) = contents-drop n xs

take-prefix : (f : List ℕ) (cs : List (List ℕ × Content)) → take (length (prefix_of f cs)) cs ≡ prefix_of f cs
take-prefix f [] = refl
take-prefix f (c ∷ cs) = by_test (take-prefix f cs) (is_lt (slice_cmp nat_cmp c.0 f))
  where
    by_test : take (length (prefix_of f cs)) cs ≡ prefix_of f cs → (b : Bool) → take (length (cond b (c ∷ prefix_of f cs) [])) (c ∷ cs) ≡ cond b (c ∷ prefix_of f cs) []
    by_test later true = ap (λ l. c ∷ l) later
    by_test later false = refl

drop-prefix : (f : List ℕ) (cs : List (List ℕ × Content)) → drop (length (prefix_of f cs)) cs ≡ back_of f cs
drop-prefix f [] = refl
drop-prefix f (c ∷ cs) = by_test (drop-prefix f cs) (is_lt (slice_cmp nat_cmp c.0 f))
  where
    by_test : drop (length (prefix_of f cs)) cs ≡ back_of f cs → (b : Bool) → drop (length (cond b (c ∷ prefix_of f cs) [])) (c ∷ cs) ≡ cond b (back_of f cs) (c ∷ cs)
    by_test later true = later
    by_test later false = refl

take-whole : {X : Type 0} (k : ℕ) (xs : List X) → length xs ≤ k → take k xs ≡ xs
take-whole zero [] h = refl
take-whole zero (x ∷ xs) h = absurd (omega arith)
take-whole (suc k) [] h = refl
take-whole (suc k) (x ∷ xs) h = ap (λ l. x ∷ l) (take-whole k xs (omega arith))

pub drop-whole : {X : Type 0} (k : ℕ) (xs : List X) → length xs ≤ k → drop k xs ≡ []
drop-whole zero [] h = refl
drop-whole zero (x ∷ xs) h = absurd (omega arith)
drop-whole (suc k) [] h = refl
drop-whole (suc k) (x ∷ xs) h = drop-whole k xs (omega arith)

pub passed : (f : List ℕ) (xs : List (String Global × Content)) (n : ℕ) → n ≡ length (prefix_of f (contents_in xs)) → contents_in (take n xs) ≡ prefix_of f (contents_in xs)
passed f xs n is = contents-take n xs ∙ ap (λ k. take k (contents_in xs)) is ∙ take-prefix f (contents_in xs)

pub others : (f : List ℕ) (xs : List (String Global × Content)) (n : ℕ) → n ≡ length (prefix_of f (contents_in xs)) → contents_in (take (length xs - n) (drop n xs)) ≡ back_of f (contents_in xs)
others f xs n is =
    ap contents_in (take-whole (length xs - n) (drop n xs) (by_length (length xs - n) (length (drop n xs)) (length-drop n xs))) ∙ contents-drop n xs ∙ ap (λ k. drop k (contents_in xs)) is ∙ drop-prefix f (contents_in xs)
  where
    by_length : (a b : ℕ) → b ≡ a → b ≤ a
    by_length a b e = omega arith

-- none is before the name
pub none_before : (f : List ℕ) (x : String Global × Content) (xs left : List (String Global × Content)) → xs ≡ x ∷ left → is_lt (slice_cmp nat_cmp (string_bytes x.0) f) ≡ false → contents_in xs ≡ back_of f (contents_in xs)
none_before f x xs left is not_less =
    ap contents_in is ∙ sym (ap (λ b. cond b (back_of f (contents_in left)) ((string_bytes x.0, x.1) ∷ contents_in left)) not_less) ∙ ap (λ l. back_of f (contents_in l)) (sym is)

pub none_at_all : (f : List ℕ) (xs : List (String Global × Content)) → length xs ≡ 0 → contents_in xs ≡ back_of f (contents_in xs)
none_at_all f [] none = refl
none_at_all f (x ∷ xs) none = absurd (omega (arith, none))

pub drop_next : {X : Type 0} (es : List X) (i : ℕ) (x : X) → i < length es → x ≡ get_or es i x → drop i es ≡ x ∷ drop (i + 1) es
drop_next es i x lt is = rw add-one (drop-cons es i x lt ∙ ap (λ y. y ∷ drop (suc i) es) (sym is))

pub rising_drop : (i : ℕ) (xs : List (String Global × Content)) → IsRising (contents_in xs) → IsRising (contents_in (drop i xs))
rising_drop zero xs rises = rises
rising_drop (suc i) [] rises = rises
rising_drop (suc i) (x ∷ xs) rises = rising_drop i xs (sorted_tail (slice_cmp nat_cmp) (string_bytes x.0) (map (λ c. c.0) (contents_in xs)) rises)
