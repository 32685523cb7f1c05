-- A text that begins with another.
use Rattle.std.proofs.Common.{◌≡◌, ℕ, Bool, true, false, List, [], ◌∷◌, ◌++◌, length, drop, Option, Some, None, MatchOption, Bor, refl, sym, subst, ap, ◌∙◌}
use Rattle.std.specs.Cmp.{both_ways}
use Rattle.std.proofs.lemmas.Slice.Eq.{bytes_eq-Decides}
use Rattle.std.specs.Str.{bytes_eq}
use Rattle.std.specs.Str.Pattern.{FindsTextPrefix, LacksTextAt, StripsPrefix}

drop_prefix : (n r : List ℕ) → drop (length n) (n ++ r) ≡ r
drop_prefix [] r = refl
drop_prefix (x ∷ n) r = drop_prefix n r

-- what follows n is m just where the whole is n and m
joined : (n m s x : List ℕ) → s ≡ n ++ x → bytes_eq x m ≡ bytes_eq s (n ++ m)
joined n m s x split =
    both_ways (bytes_eq x m) (bytes_eq s (n ++ m))
    (λ e. (bytes_eq-Decides s (n ++ m)).1 (split ∙ ap (λ l. n ++ l) ((bytes_eq-Decides x m).0 e)))
    (λ e. (bytes_eq-Decides x m).1 (sym (drop_prefix n x) ∙ ap (drop (length n)) (sym split ∙ (bytes_eq-Decides s (n ++ m)).0 e) ∙ drop_prefix n m))

pub joined_where_found : (n m s : List ℕ) (r : Option (Bor (List ℕ))) (x : Bor (List ℕ)) → MatchOption r (FindsTextPrefix n s None) (λ x. StripsPrefix (FindsTextPrefix n) s x.now) → r ≡ Some x
    → bytes_eq x.now m ≡ bytes_eq s (n ++ m)
joined_where_found n m s r x h is =
    let found : StripsPrefix (FindsTextPrefix n) s x.now = subst (λ (o : Option (Bor (List ℕ))). MatchOption o (FindsTextPrefix n s None) (λ y. StripsPrefix (FindsTextPrefix n) s y.now)) is h in
    let k = found.0 in
    joined n m s x.now (found.1.1 ∙ ap (λ l. n ++ l) (sym found.2))

lacks : (n m s : List ℕ) (b : Bool) → bytes_eq s (n ++ m) ≡ b → LacksTextAt n s 0 → false ≡ b
lacks n m s false is h = refl
lacks n m s true is h = absurd (h m ((bytes_eq-Decides s (n ++ m)).0 is))

pub joined_nowhere : (n m s : List ℕ) (r : Option (Bor (List ℕ))) → MatchOption r (FindsTextPrefix n s None) (λ x. StripsPrefix (FindsTextPrefix n) s x.now) → r ≡ None
    → false ≡ bytes_eq s (n ++ m)
joined_nowhere n m s r h is =
    lacks n m s (bytes_eq s (n ++ m)) refl (subst (λ (o : Option (Bor (List ℕ))). MatchOption o (FindsTextPrefix n s None) (λ y. StripsPrefix (FindsTextPrefix n) s y.now)) is h)
