-- Lists of objects whose places ascend.
use Rattle.std.proofs.Common.{◌≡◌, ℕ, ◌+◌, ◌-◌, ◌≤◌, ◌<◌, zero, suc, Bool, true, false, ◌&&◌, T, List, [], ◌∷◌, ◌++◌, map, drop, length, get_or, Some, Less, refl, sym, ap, ap₂, subst, ◌∙◌, arith, drop-cons}
use Rattle.std.proofs.lemmas.List.{map-append, length-drop}
use Rattle.std.specs.List.{slice_get}
use Rattle.std.specs.Cmp.{both_ways}
use Rattle.std.specs.Ordering.{is_lt}
use Rattle.std.specs.FinMap.Entries.{below_all, is_sorted}
use Rattle.indexer.specs.Objects.{Place, place_cmp, Shared, Stored, shared_of}
use Rattle.reflector.specs.Client.{place_in, by_place}
use Rattle.reflector.proofs.Between.{both, fst, snd, is_less, below_lower}
use Rattle.reflector.proofs.Keyed.{Entries}

abbrev pub under_key : Shared → Place × Stored
under_key o = (place_in (shared_of o), shared_of o)

abbrev pub rows : List Shared → Entries
rows os = by_place (map shared_of os)

truth : (b : Bool) → T b → b ≡ true
truth true h = refl
truth false h = absurd h

-- a first entry below the next one changes nothing
below_next : (x y : Place × Stored) (ys : Entries) (t : Bool) → t ≡ is_lt (place_cmp x.0 y.0) → (t && is_sorted place_cmp (y ∷ ys)) ≡ is_sorted place_cmp (x ∷ y ∷ ys)
below_next x y ys true is =
    let less : place_cmp x.0 y.0 ≡ Less = is_less _ (subst T is tt) in
    both_ways _ _
    (λ h. truth _ (both _ _ (both _ _ (subst T is tt) (below_lower x.0 y.0 ys less (fst _ _ (subst T (sym h) tt)))) (subst T (sym h) tt)))
    (λ h. truth _ (snd (below_all place_cmp x.0 (y ∷ ys)) _ (subst T (sym h) tt)))
below_next x y ys false is = ap (λ b. (b && below_all place_cmp x.0 ys) && is_sorted place_cmp (y ∷ ys)) is

-- ---- neighbours

minus_one : (k : ℕ) → suc k - 1 ≡ k
minus_one k = omega arith

plus_minus : (k : ℕ) → (suc k + 1) - 1 ≡ suc k
plus_minus k = omega arith

pub next_pair : (whole : Bool) (os : List Shared) (i : ℕ) (a b : Shared) (t : Bool) → i < length os → a ≡ get_or os (i - 1) a → b ≡ get_or os i b → t ≡ is_lt (place_cmp (under_key a).0 (under_key b).0) → t ≡ true
    → whole ≡ is_sorted place_cmp (rows (drop (i - 1) os)) → whole ≡ is_sorted place_cmp (rows (drop ((i + 1) - 1) os))
next_pair whole os zero a b t lt is_a is_b is holds h = h
next_pair whole os (suc k) a b t lt is_a is_b is holds h =
    let lower : k < length os = omega (arith, lt) in
    let first : drop k os ≡ a ∷ drop (suc k) os = drop-cons os k a lower ∙ ap (λ x. x ∷ drop (suc k) os) (ap (λ n. get_or os n a) (sym (minus_one k)) ∙ sym is_a) in
    let second : drop (suc k) os ≡ b ∷ drop (suc (suc k)) os = drop-cons os (suc k) b lt ∙ ap (λ x. x ∷ drop (suc (suc k)) os) (sym is_b) in
    h ∙ ap (λ n. is_sorted place_cmp (rows (drop n os))) (minus_one k)
    ∙ ap (λ xs. is_sorted place_cmp (rows xs)) (first ∙ ap (λ xs. a ∷ xs) second)
    ∙ sym (below_next (under_key a) (under_key b) (rows (drop (suc (suc k)) os)) t is)
    ∙ ap (λ u. u && is_sorted place_cmp (under_key b ∷ rows (drop (suc (suc k)) os))) holds
    ∙ ap (λ xs. is_sorted place_cmp (rows xs)) (sym second)
    ∙ ap (λ n. is_sorted place_cmp (rows (drop n os))) (sym (plus_minus k))

one_is : (os : List Shared) → length os ≤ 1 → is_sorted place_cmp (rows os) ≡ true
one_is [] h = refl
one_is (a ∷ []) h = refl
one_is (a ∷ b ∷ os) h = absurd (omega (arith, h))

pub all_pairs : (whole : Bool) (os : List Shared) (i : ℕ) → length os ≤ i → whole ≡ is_sorted place_cmp (rows (drop (i - 1) os)) → true ≡ whole
all_pairs whole os i le h =
    let n : length (drop (i - 1) os) ≡ length os - (i - 1) = length-drop (i - 1) os in
    sym (h ∙ one_is (drop (i - 1) os) (omega (arith, n, le)))

-- ---- two lists

abbrev last_of : Place × Stored → Entries → Place × Stored
last_of x [] = x
last_of x (y ∷ ys) = last_of y ys

joined : (x : Place × Stored) (xs : Entries) (y : Place × Stored) (ys : Entries) (t : Bool) → t ≡ is_lt (place_cmp (last_of x xs).0 y.0) → T (is_sorted place_cmp (x ∷ xs))
    → (t && is_sorted place_cmp (y ∷ ys)) ≡ is_sorted place_cmp ((x ∷ xs) ++ y ∷ ys)
joined x [] y ys t is h = below_next x y ys t is
joined x (z ∷ zs) y ys t is h =
    joined z zs y ys t is (snd _ _ h) ∙ below_next x z (zs ++ y ∷ ys) true (sym (truth _ (fst _ (below_all place_cmp x.0 zs) (fst _ _ h))))

some_is : {A : Type 0} (x y : A) → Some x ≡ Some y → x ≡ y
some_is x y e = cc

last_is : (a : Shared) (os : List Shared) (l : Shared) → Some l ≡ slice_get (a ∷ os) (length os) → last_of (under_key a) (rows os) ≡ under_key l
last_is a [] l h = ap under_key (sym (some_is l a h))
last_is a (b ∷ os) l h = last_is b os l h

pub joined_rows : (os fs : List Shared) (l f : Shared) (t : Bool) → Some l ≡ slice_get os (length os - 1) → Some f ≡ slice_get fs 0 → t ≡ is_lt (place_cmp (under_key l).0 (under_key f).0) → is_sorted place_cmp (rows os) ≡ true
    → (t && is_sorted place_cmp (rows fs)) ≡ is_sorted place_cmp (by_place (map shared_of os ++ map shared_of fs))
joined_rows [] fs l f t is_l is_f is h = absurd cc
joined_rows (a ∷ os) [] l f t is_l is_f is h = absurd cc
joined_rows (a ∷ os) (b ∷ fs) l f t is_l is_f is h =
    let last : last_of (under_key a) (rows os) ≡ under_key l = last_is a os l (is_l ∙ ap (slice_get (a ∷ os)) (minus_one (length os))) in
    joined (under_key a) (rows os) (under_key b) (rows fs) t (is ∙ ap₂ (λ x y. is_lt (place_cmp x.0 y.0)) (sym last) (ap under_key (some_is f b is_f))) (subst T (sym h) tt)
    ∙ ap (is_sorted place_cmp) (sym (map-append (λ o. (place_in o, o)) (map shared_of (a ∷ os)) (map shared_of (b ∷ fs))))
