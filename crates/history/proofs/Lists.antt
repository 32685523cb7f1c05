-- Facts of all members of a list, and filters of filters.
use Rattle.std.proofs.Common.{◌≡◌, Bool, true, false, cond, ◌&&◌, List, [], ◌∷◌, ◌++◌, refl, sym, ap, ◌∙◌, filter}
use Rattle.std.specs.List.{AllByRecursion, flat_map}

module _ {A : Type 0} (P : A → Type 0) where
  pub all_weaker : (Q : A → Type 0) → ((x : A) → P x → Q x) → (xs : List A) → AllByRecursion P xs → AllByRecursion Q xs
  all_weaker Q f [] h = tt
  all_weaker Q f (x ∷ xs) h = (f x h.0, all_weaker Q f xs h.1)

  pub all-filter : (p : A → Bool) (xs : List A) → AllByRecursion P xs → AllByRecursion P (filter p xs)
  all-filter p [] h = tt
  all-filter p (x ∷ xs) h =
      elim (p x) as (λ b. AllByRecursion P (cond b (x ∷ filter p xs) (filter p xs))) [ true ↦ (h.0, all-filter p xs h.1) | false ↦ all-filter p xs h.1 ]

pub filter_all : {A : Type 0} (p : A → Bool) (xs : List A) → AllByRecursion (λ x. p x ≡ true) xs → filter p xs ≡ xs
filter_all p [] h = refl
filter_all p (x ∷ xs) h = rw (h.0, filter_all p xs h.1) refl

pub filter_both : {A : Type 0} (p q : A → Bool) (xs : List A) → filter p (filter q xs) ≡ filter (λ x. q x && p x) xs
filter_both p q [] = refl
filter_both p q (x ∷ xs) = go (q x) (filter_both p q xs)
  where
    go : (b : Bool) → filter p (filter q xs) ≡ filter (λ y. q y && p y) xs
        → filter p (cond b (x ∷ filter q xs) (filter q xs)) ≡ cond (b && p x) (x ∷ filter (λ y. q y && p y) xs) (filter (λ y. q y && p y) xs)
    go true more = ap (λ l. cond (p x) (x ∷ l) l) more
    go false more = more

pub filter_like : {A : Type 0} (p q : A → Bool) → ((x : A) → p x ≡ q x) → (xs : List A) → filter p xs ≡ filter q xs
filter_like p q same [] = refl
filter_like p q same (x ∷ xs) = rw (same x, filter_like p q same xs) refl

pub filter_turned : {A : Type 0} (p q : A → Bool) (xs : List A) → filter p (filter q xs) ≡ filter q (filter p xs)
filter_turned p q xs = filter_both p q xs ∙ filter_like (λ x. q x && p x) (λ x. p x && q x) (λ x. turned (q x) (p x)) xs ∙ sym (filter_both q p xs)
  where
    turned : (a b : Bool) → (a && b) ≡ (b && a)
    turned true true = refl
    turned true false = refl
    turned false true = refl
    turned false false = refl

-- members that a filter drops and that give nothing anyway
pub flat_map-filter : {A B : Type 0} (f g : A → List B) (p : A → Bool) → ((x : A) → p x ≡ true → f x ≡ g x) → ((x : A) → p x ≡ false → g x ≡ []) → (xs : List A) → flat_map f (filter p xs) ≡ flat_map g xs
flat_map-filter f g p alike none [] = refl
flat_map-filter f g p alike none (x ∷ xs) = go (p x) refl (flat_map-filter f g p alike none xs)
  where
    go : (b : Bool) → p x ≡ b → flat_map f (filter p xs) ≡ flat_map g xs → flat_map f (cond b (x ∷ filter p xs) (filter p xs)) ≡ g x ++ flat_map g xs
    go true is more = ap (λ l. l ++ flat_map f (filter p xs)) (alike x is) ∙ ap (λ l. g x ++ l) more
    go false is more = more ∙ sym (ap (λ l. l ++ flat_map g xs) (none x is))

pub filter-push : {A : Type 0} (p : A → Bool) (xs : List A) (x : A) → filter p (xs ++ x ∷ []) ≡ filter p xs ++ cond (p x) (x ∷ []) []
filter-push p [] x = refl
filter-push p (y ∷ xs) x = go (p y) (filter-push p xs x)
  where
    go : (b : Bool) → filter p (xs ++ x ∷ []) ≡ filter p xs ++ cond (p x) (x ∷ []) []
        → cond b (y ∷ filter p (xs ++ x ∷ [])) (filter p (xs ++ x ∷ [])) ≡ cond b (y ∷ filter p xs) (filter p xs) ++ cond (p x) (x ∷ []) []
    go true is = ap (λ ys. y ∷ ys) is
    go false is = is
