-- The first sign of a part, found at its first '='.
use Rattle.std.proofs.Common.{◌≡◌, ◌≢◌, ℕ, suc, ◌<◌, Bool, true, false, eqb, ◌&&◌, List, [], ◌∷◌, ◌++◌, length, get_or, take, Option, Some, None, refl, sym, ap, ◌∙◌, arith, ne_eqb, Bor, append_assoc, length-append}
use Rattle.std.specs.Prelude.{MatchOption, unwrap_or}
use Rattle.std.specs.Str.{bytes_eq}
use Rattle.std.proofs.lemmas.List.{get_or_append_left}
use Rattle.selector.specs.Grammar.{equal, different, sign_at, cut_at_sign, signed, plain_of}

-- no byte of it is '='
abbrev pub Lacks : List ℕ → Type 0
Lacks xs = (i : ℕ) → i < length xs → get_or xs i 0 ≢ 61

lacks_first : (x : ℕ) (xs : List ℕ) → Lacks (x ∷ xs) → eqb x 61 ≡ false
lacks_first x xs h = ne_eqb x 61 (h 0 (omega arith))

lacks_rest : (x : ℕ) (xs : List ℕ) → Lacks (x ∷ xs) → Lacks xs
lacks_rest x xs h = λ i lt. h (suc i) (omega arith)

no_equal_next : (xs : List ℕ) → Lacks xs → bytes_eq (take 1 xs) (61 ∷ []) ≡ false
no_equal_next [] h = refl
no_equal_next (x ∷ xs) h = rw (lacks_first x xs h) refl

-- neither '=' nor "!="
no_sign : (x : ℕ) (xs : List ℕ) → eqb x 61 ≡ false → (eqb x 33 && bytes_eq (take 1 xs) (61 ∷ [])) ≡ false → sign_at (x ∷ xs) ≡ None
no_sign x xs first second = rw (second, first) refl

pub cut_none : (xs : List ℕ) → Lacks xs → cut_at_sign xs ≡ (xs, None)
cut_none [] h = refl
cut_none (x ∷ xs) h =
    let here : (eqb x 33 && bytes_eq (take 1 xs) (61 ∷ [])) ≡ false = rw (no_equal_next xs (lacks_rest x xs h)) (never (eqb x 33)) in
    rw (no_sign x xs (lacks_first x xs h) here, cut_none xs (lacks_rest x xs h)) refl
  where
    never : (t : Bool) → (t && false) ≡ false
    never true = refl
    never false = refl

-- ---- where the first '=' has no '!' before it

after_other : (x : ℕ) (xs after : List ℕ) → Lacks (x ∷ xs) → ((prefix : List ℕ) → x ∷ xs ≢ prefix ++ 33 ∷ []) → (eqb x 33 && bytes_eq (take 1 (xs ++ 61 ∷ after)) (61 ∷ [])) ≡ false
after_other x [] after h other = rw (ne_eqb x 33 (λ e. other [] (ap (λ y. y ∷ []) e))) refl
after_other x (y ∷ ys) after h other = rw (lacks_first y ys (lacks_rest x (y ∷ ys) h)) (never (eqb x 33))
  where
    never : (t : Bool) → (t && false) ≡ false
    never true = refl
    never false = refl

pub cut_equal : (xs after value : List ℕ) → Lacks xs → ((prefix : List ℕ) → xs ≢ prefix ++ 33 ∷ []) → sign_at (61 ∷ after) ≡ Some (equal, value) → cut_at_sign (xs ++ 61 ∷ after) ≡ (xs, Some (equal, value))
cut_equal [] after value h other sign = rw sign refl
cut_equal (x ∷ xs) after value h other sign =
    let rest = cut_equal xs after value (lacks_rest x xs h) (λ prefix e. other (x ∷ prefix) (ap (λ (ys : List ℕ). x ∷ ys) e)) sign in
    rw (no_sign x (xs ++ 61 ∷ after) (lacks_first x xs h) (after_other x xs after h other), rest) refl

-- the second '=' belongs to the sign
pub sign_equal : (after : List ℕ) (r : Option (Bor (List ℕ))) (whole : Bor (List ℕ)) → whole.now ≡ after → MatchOption r ((rest : List ℕ) → after ≢ 61 ∷ rest) (λ x. after ≡ 61 ∷ x.now)
    → sign_at (61 ∷ after) ≡ Some (equal, (unwrap_or r whole).now)
sign_equal [] None whole is h = ap (λ v. Some (equal, v)) (sym is)
sign_equal (a ∷ after) None whole is h = rw (ne_eqb a 61 (λ e. h after (ap (λ y. y ∷ after) e))) (ap (λ v. Some (equal, v)) (sym is))
sign_equal after (Some x) whole is h = rw h refl

-- ---- where it has

not_yet : (x : ℕ) (xs after : List ℕ) → Lacks (x ∷ xs) → (eqb x 33 && bytes_eq (take 1 (xs ++ 33 ∷ 61 ∷ after)) (61 ∷ [])) ≡ false
not_yet x [] after h = never (eqb x 33)
  where
    never : (t : Bool) → (t && false) ≡ false
    never true = refl
    never false = refl
not_yet x (y ∷ ys) after h = rw (lacks_first y ys (lacks_rest x (y ∷ ys) h)) (never (eqb x 33))
  where
    never : (t : Bool) → (t && false) ≡ false
    never true = refl
    never false = refl

cut_here_different : (xs after : List ℕ) → Lacks xs → cut_at_sign (xs ++ 33 ∷ 61 ∷ after) ≡ (xs, Some (different, after))
cut_here_different [] after h = refl
cut_here_different (x ∷ xs) after h =
    rw (no_sign x (xs ++ 33 ∷ 61 ∷ after) (lacks_first x xs h) (not_yet x xs after h), cut_here_different xs after (lacks_rest x xs h)) refl

pub cut_different : (before key after : List ℕ) → Lacks before → before ≡ key ++ 33 ∷ [] → cut_at_sign (before ++ 61 ∷ after) ≡ (key, Some (different, after))
cut_different before key after h is =
    let lacks : Lacks key = λ i lt e.
    let below : i < length before = omega (arith, ap length is, length-append key (33 ∷ [])) in
    h i below (ap (λ (xs : List ℕ). get_or xs i 0) is ∙ get_or_append_left key (33 ∷ []) 0 i lt ∙ e) in
    ap (λ (xs : List ℕ). cut_at_sign (xs ++ 61 ∷ after)) is ∙ ap cut_at_sign (append_assoc key (33 ∷ []) (61 ∷ after)) ∙ cut_here_different key after lacks

-- ---- a part that has something and begins with no '!'

pub plain_is : (part : List ℕ) → 0 < length part → ((rest : List ℕ) → part ≢ 33 ∷ rest) → plain_of part ≡ signed (cut_at_sign part).0 (cut_at_sign part).1
plain_is [] some other = absurd (omega arith)
plain_is (b ∷ bs) some other = rw (ne_eqb b 33 (λ e. other bs (ap (λ y. y ∷ bs) e))) refl
