-- Loops that put what each is mapped to behind what is there, and lists cut at a count.
use Rattle.std.proofs.Common.{◌≡◌, ℕ, zero, suc, ◌+◌, ◌-◌, ◌<◌, ◌≤◌, List, [], ◌∷◌, ◌++◌, length, take, map, get_or, refl, sym, ap, ap₂, ◌∙◌, arith, append_assoc, le-ltb, lt-ltb, ltb-false, ltb-true, zero-le, drop, drop_of_length-le, Bool, true, false}
use Rattle.std.specs.Prelude.{nat_lt}
use Rattle.std.proofs.lemmas.List.{take_more, map-append}

-- one more, behind what was there before the loop
pub one_more : {A B C : Type 0} (f : A → C) (h : B → C) (start : List C) (old : List A) (made : A) (bs : List B) (i : ℕ) (b : B) → i < length bs → b ≡ get_or bs i b
    → f made ≡ h b → map f old ≡ start ++ map h (take i bs) → map f (old ++ made ∷ []) ≡ start ++ map h (take (i + 1) bs)
one_more f h start old made bs i b lt is same before =
    map-append f old (made ∷ []) ∙ ap₂ (λ xs c. xs ++ c ∷ []) before (same ∙ ap h is)
    ∙ append_assoc start (map h (take i bs)) (h (get_or bs i b) ∷ [])
    ∙ ap (λ xs. start ++ xs) (sym (ap (map h) (take_more bs i b lt) ∙ map-append h (take i bs) (get_or bs i b ∷ [])))

pub map_twice : {A B C : Type 0} (f : B → C) (g : A → B) (xs : List A) → map (λ x. f (g x)) xs ≡ map f (map g xs)
map_twice f g [] = refl
map_twice f g (x ∷ xs) = ap (λ l. f (g x) ∷ l) (map_twice f g xs)

-- ---- a count

pub take-behind : {A : Type 0} (n : ℕ) (xs ys : List A) → take n (xs ++ ys) ≡ take n xs ++ take (n - length xs) ys
take-behind zero [] ys = refl
take-behind zero (x ∷ xs) ys = let none : 0 - length (x ∷ xs) ≡ 0 = omega arith in ap (λ n. take n ys) (sym none)
take-behind (suc n) [] ys = let all : suc n - 0 ≡ suc n = omega arith in ap (λ m. take m ys) (sym all)
take-behind (suc n) (x ∷ xs) ys =
    let same : suc n - length (x ∷ xs) ≡ n - length xs = omega arith in
    ap (λ l. x ∷ l) (take-behind n xs ys ∙ ap (λ m. take n xs ++ take m ys) (sym same))

pub drop-behind : {A : Type 0} (n : ℕ) (xs ys : List A) → drop n (xs ++ ys) ≡ drop n xs ++ drop (n - length xs) ys
drop-behind zero [] ys = refl
drop-behind zero (x ∷ xs) ys = let none : 0 - length (x ∷ xs) ≡ 0 = omega arith in ap (λ n. (x ∷ xs) ++ drop n ys) (sym none)
drop-behind (suc n) [] ys = let all : suc n - 0 ≡ suc n = omega arith in ap (λ m. drop m ys) (sym all)
drop-behind (suc n) (x ∷ xs) ys =
    let same : suc n - length (x ∷ xs) ≡ n - length xs = omega arith in
    drop-behind n xs ys ∙ ap (λ m. drop n xs ++ drop m ys) (sym same)

pub drop-add : {A : Type 0} (n m : ℕ) (xs : List A) → drop (n + m) xs ≡ drop m (drop n xs)
drop-add zero m xs = let same : 0 + m ≡ m = omega arith in ap (λ k. drop k xs) same
drop-add (suc n) m [] = drop_of_length-le [] zero-le ∙ sym (drop_of_length-le [] zero-le)
drop-add (suc n) m (x ∷ xs) = let same : suc n + m ≡ suc (n + m) = omega arith in ap (λ k. drop k (x ∷ xs)) same ∙ drop-add n m xs

lt_suc : (a b : ℕ) → nat_lt (suc a) (suc b) ≡ nat_lt a b
lt_suc a b = go (nat_lt a b) refl
  where
    go : (c : Bool) → nat_lt a b ≡ c → nat_lt (suc a) (suc b) ≡ c
    go true is = let h : a < b = ltb-true a b is in lt-ltb (suc a) (suc b) (omega (arith, h))
    go false is = let h : b ≤ a = ltb-false a b is in le-ltb (suc a) (suc b) (omega (arith, h))

-- fewer than so many are taken where there are fewer
pub lt-taken : {A : Type 0} (n : ℕ) (xs : List A) → nat_lt (length (take n xs)) n ≡ nat_lt (length xs) n
lt-taken zero [] = refl
lt-taken zero (x ∷ xs) = sym (le-ltb (length (x ∷ xs)) 0 (omega arith))
lt-taken (suc n) [] = refl
lt-taken (suc n) (x ∷ xs) = lt_suc (length (take n xs)) n ∙ lt-taken n xs ∙ sym (lt_suc (length xs) n)

-- the room that is left is the same by what is taken
pub room-taken : {A : Type 0} (n : ℕ) (xs : List A) → n - length (take n xs) ≡ n - length xs
room-taken zero [] = refl
room-taken zero (x ∷ xs) = omega arith
room-taken (suc n) [] = refl
room-taken (suc n) (x ∷ xs) = let others : n - length (take n xs) ≡ n - length xs = room-taken n xs in omega (arith, others)

pub enough : {A : Type 0} (n : ℕ) (found rest : List A) → n ≤ length found → take n found ≡ take n (found ++ rest)
enough zero found rest h = refl
enough (suc n) [] rest h = absurd (omega arith)
enough (suc n) (x ∷ found) rest h = ap (λ xs. x ∷ xs) (enough n found rest (omega (arith, h)))
