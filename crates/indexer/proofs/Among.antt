-- Keys among others.
use Rattle.std.proofs.Common.{◌≡◌, ℕ, zero, suc, ◌+◌, ◌<◌, Bool, true, false, cond, not, ◌&&◌, ◌||◌, List, [], ◌∷◌, ◌++◌, length, map, take, drop, drop-cons, add-one, take_all, length-drop, arith, ◌-◌, get_or, String, Global, Some, None, ltb, refl, sym, ap, ap₂, ◌∙◌}
use Rattle.std.specs.Prelude.{string_bytes}
use Rattle.std.specs.List.{list_any, prefix_len, position}
use Rattle.std.specs.Rc.{rc_str_bytes}
use Rattle.std.specs.declared.rc.RcStr.{RcStr}
use Rattle.std.specs.Str.{bytes_eq}
use Rattle.std.proofs.lemmas.List.{take_more, map-append}
use Rattle.std.proofs.lemmas.Slice.Eq.{bytes_eq-Decides}
use Rattle.indexer.specs.Names.{are_distinct}
use Rattle.indexer.specs.Objects.{is_among}

and_never : (a : Bool) → false ≡ (a && false)
and_never true = refl
and_never false = refl

pub any-take : {A B : Type 0} (f : A → B) (p : B → Bool) (xs : List A) (i : ℕ) → list_any p (map f (take i xs)) ≡ (list_any p (map f xs) && list_any p (map f (take i xs)))
any-take f p [] zero = refl
any-take f p [] (suc i) = refl
any-take f p (x ∷ xs) zero = and_never (list_any p (map f (x ∷ xs)))
any-take f p (x ∷ xs) (suc i) = go (p (f x)) (any-take f p xs i)
  where
    go : (t : Bool) → list_any p (map f (take i xs)) ≡ (list_any p (map f xs) && list_any p (map f (take i xs)))
        → (t || list_any p (map f (take i xs))) ≡ ((t || list_any p (map f xs)) && (t || list_any p (map f (take i xs))))
    go true h = refl
    go false h = h

any-append : {B : Type 0} (p : B → Bool) (xs : List B) (y : B) → list_any p (xs ++ y ∷ []) ≡ (list_any p xs || p y)
any-append p [] y = go (p y)
  where
    go : (t : Bool) → (t || false) ≡ (false || t)
    go true = refl
    go false = refl
any-append p (x ∷ xs) y = go (p x) (any-append p xs y)
  where
    go : (t : Bool) → list_any p (xs ++ y ∷ []) ≡ (list_any p xs || p y) → (t || list_any p (xs ++ y ∷ [])) ≡ ((t || list_any p xs) || p y)
    go true h = refl
    go false h = h

pub any-more : {A B : Type 0} (f : A → B) (p : B → Bool) (xs : List A) (i : ℕ) (x : A) → i < length xs → x ≡ get_or xs i x → list_any p (map f (take (i + 1) xs)) ≡ (list_any p (map f (take i xs)) || p (f x))
any-more f p xs i x lt is =
    ap (λ ys. list_any p (map f ys)) (take_more xs i x lt) ∙ ap (list_any p) (map-append f (take i xs) (get_or xs i x ∷ []))
    ∙ any-append p (map f (take i xs)) (f (get_or xs i x)) ∙ ap (λ y. list_any p (map f (take i xs)) || p (f y)) (sym is)

any-map : {A B : Type 0} (f : A → B) (p : B → Bool) (xs : List A) → list_any (λ x. p (f x)) xs ≡ list_any p (map f xs)
any-map f p [] = refl
any-map f p (x ∷ xs) = ap (λ b. p (f x) || b) (any-map f p xs)

-- a text and the keys to keep, where k is that text
pub same_text : (texts : List (RcStr Global)) (text k : List ℕ) (found : Bool) → found ≡ list_any (λ t. bytes_eq (rc_str_bytes t) text) texts → bytes_eq text k ≡ true → found ≡ is_among (map rc_str_bytes texts) k
same_text texts text k found is e =
    let same : text ≡ k = (bytes_eq-Decides text k).0 e in
    is ∙ any-map rc_str_bytes (λ t. bytes_eq t text) texts ∙ ap (λ t. is_among (map rc_str_bytes texts) t) same

-- a text that is not to be kept, and one that is
pub not_kept : (e kept found : Bool) → (e ≡ true → found ≡ kept) → found ≡ false → (e && not (not kept)) ≡ false
not_kept true kept found h f = ap (λ b. not (not b)) (sym (h refl) ∙ f)
not_kept false kept found h f = refl

pub is_kept : (e kept found : Bool) → (e ≡ true → found ≡ kept) → found ≡ true → (e && not kept) ≡ false
is_kept true kept found h f = ap not (sym (h refl) ∙ f)
is_kept false kept found h f = refl

prefix-map : {A B : Type 0} (f : A → B) (p : B → Bool) (xs : List A) → prefix_len (λ x. p (f x)) xs ≡ prefix_len p (map f xs)
prefix-map f p [] = refl
prefix-map f p (x ∷ xs) = ap (λ n. cond (p (f x)) (1 + n) 0) (prefix-map f p xs)

length-map_is : {A B : Type 0} (f : A → B) (xs : List A) → length xs ≡ length (map f xs)
length-map_is f [] = refl
length-map_is f (x ∷ xs) = ap suc (length-map_is f xs)

pub position-map : {A B : Type 0} (f : A → B) (p : B → Bool) (xs : List A) → position (λ x. p (f x)) xs ≡ position p (map f xs)
position-map f p xs = ap₂ (λ i n. cond (ltb i n) (Some i) None) (prefix-map f (λ y. not (p y)) xs) (length-map_is f xs)

whole_rest : {A : Type 0} (xs : List A) (i : ℕ) → take (length xs - i) (drop i xs) ≡ drop i xs
whole_rest xs i = take_all (length xs - i) (drop i xs) (omega (arith, length-drop i xs))

-- the first of the names that are left, and the names after it
pub distinct_from : (names : List (String Global)) (i : ℕ) (x : String Global) (found : Bool) → i < length names → x ≡ get_or names i x
    → found ≡ list_any (λ y. bytes_eq (string_bytes y) (string_bytes x)) (take (length names - (i + 1)) (drop (i + 1) names))
    → are_distinct (map string_bytes (drop i names)) ≡ (not found && are_distinct (map string_bytes (drop (i + 1) names)))
distinct_from names i x found lt is f =
    ap (λ (ns : List (String Global)). are_distinct (map string_bytes ns)) (drop-cons names i x lt)
    ∙ ap (λ (y : String Global). not (list_any (λ n. bytes_eq n (string_bytes y)) (map string_bytes (drop (suc i) names))) && are_distinct (map string_bytes (drop (suc i) names))) (sym is)
    ∙ ap (λ b. not b && are_distinct (map string_bytes (drop (suc i) names))) (sym (any-map string_bytes (λ n. bytes_eq n (string_bytes x)) (drop (suc i) names)))
    ∙ ap (λ (j : ℕ). not (list_any (λ y. bytes_eq (string_bytes y) (string_bytes x)) (drop j names)) && are_distinct (map string_bytes (drop j names))) (sym (add-one i))
    ∙ ap (λ b. not b && are_distinct (map string_bytes (drop (i + 1) names))) (sym (f ∙ ap (λ (ns : List (String Global)). list_any (λ y. bytes_eq (string_bytes y) (string_bytes x)) ns) (whole_rest names (i + 1))))
