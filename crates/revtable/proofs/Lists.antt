-- Lists turned round, and prefixes of lists.
use Rattle.std.proofs.Common.{◌≡◌, List, [], ◌∷◌, ◌++◌, map, reverse, refl, sym, ap, ◌∙◌}
use Rattle.std.proofs.lemmas.List.{reverse-append, map-append}
use Rattle.std.specs.List.{AllByRecursion}
use Rattle.sqlite.specs.Tree.{IsAscending}
use Rattle.sqlite_keyed.proofs.ListLemmas.{all_weaker, all-append, ascending-append}

pub reverse-cons : {X : Type 0} (x : X) (xs : List X) → reverse (x ∷ xs) ≡ reverse xs ++ x ∷ []
reverse-cons x xs = reverse-append (x ∷ []) xs

pub map-reverse : {X Y : Type 0} (f : X → Y) (xs : List X) → map f (reverse xs) ≡ reverse (map f xs)
map-reverse f [] = refl
map-reverse f (x ∷ xs) = ap (map f) (reverse-cons x xs) ∙ map-append f (reverse xs) (x ∷ []) ∙ ap (λ l. l ++ f x ∷ []) (map-reverse f xs) ∙ sym (reverse-cons (f x) (map f xs))

pub all-reverse : {X : Type 0} (P : X → Type 0) (ys : List X) → AllByRecursion P ys → AllByRecursion P (reverse ys)
all-reverse P [] h = tt
all-reverse P (y ∷ ys) h = rw reverse-cons (all-append P (reverse ys) (y ∷ []) (all-reverse P ys h.1) (h.0, tt))

pub ascending-reverse : {X : Type 0} (R : X → X → Type 0) (xs : List X) → IsAscending R xs → IsAscending (λ a b. R b a) (reverse xs)
ascending-reverse R [] up = tt
ascending-reverse R (x ∷ xs) up =
    rw reverse-cons (ascending-append (λ a b. R b a) (reverse xs) (x ∷ []) (ascending-reverse R xs up.1) (tt, tt)
    (all-reverse (λ y. AllByRecursion (λ z. R z y) (x ∷ [])) xs (all_weaker (R x) (λ y. AllByRecursion (λ z. R z y) (x ∷ [])) (λ y h. (h, tt)) xs up.0)))
