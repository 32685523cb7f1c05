-- A type is found by its names, where no two types have the same.
use Rattle.std.proofs.Common.{◌≡◌, ◌∙◌, ◌&&◌, ◌||◌, ◌+◌, ℕ, zero, suc, ap, refl, sym, subst, cond, not, List, [], ◌∷◌, Bool, true, false, true≢false, Some, arith, add-zero}
use Rattle.std.specs.List.{list_any, slice_get}
use Rattle.std.specs.Str.{bytes_eq}
use Rattle.std.proofs.lemmas.Bool.{and_parts}
use Rattle.std.proofs.lemmas.Slice.Eq.{bytes_eq-Decides}
use Rattle.api_types.specs.TypesFile.{ServedShape, is_named, names_differ, number_from, type_number}

both : (a b : Bool) → a ≡ true → b ≡ true → (a && b) ≡ true
both true b x y = y
both false b x y = absurd (true≢false (sym x))

own_names : (t : ServedShape) → is_named t.group t.version t.plural t ≡ true
own_names t =
    both (bytes_eq t.group t.group && bytes_eq t.version t.version) (bytes_eq t.plural t.plural)
    (both (bytes_eq t.group t.group) (bytes_eq t.version t.version) ((bytes_eq-Decides t.group t.group).1 refl) ((bytes_eq-Decides t.version t.version).1 refl))
    ((bytes_eq-Decides t.plural t.plural).1 refl)

-- the names of one are those of the other
same_names : (g v p : List ℕ) (u : ServedShape) → is_named g v p u ≡ true → (g ≡ u.group) × (v ≡ u.version) × (p ≡ u.plural)
same_names g v p u h =
    let outer = and_parts (bytes_eq g u.group && bytes_eq v u.version) (bytes_eq p u.plural) h in
    let inner = and_parts (bytes_eq g u.group) (bytes_eq v u.version) outer.0 in
    ((bytes_eq-Decides g u.group).0 inner.0, (bytes_eq-Decides v u.version).0 inner.1, (bytes_eq-Decides p u.plural).0 outer.1)

turned : (t u : ServedShape) → is_named t.group t.version t.plural u ≡ true → is_named u.group u.version u.plural t ≡ true
turned t u h =
    let same = same_names t.group t.version t.plural u h in
    subst (λ (g : List ℕ). is_named g u.version u.plural t ≡ true) same.0
    (subst (λ (v : List ℕ). is_named t.group v u.plural t ≡ true) same.1 (subst (λ (p : List ℕ). is_named t.group t.version p t ≡ true) same.2 (own_names t)))

among : (q : ServedShape → Bool) (ts : List ServedShape) (k : ℕ) (t : ServedShape) → slice_get ts k ≡ Some t → q t ≡ true → list_any q ts ≡ true
among q [] k t at holds = absurd cc
among q (u ∷ us) zero t at holds = let same : u ≡ t = cc in by (q u) (ap q same ∙ holds)
  where
    by : (b : Bool) → b ≡ true → (b || list_any q us) ≡ true
    by true e = refl
    by false e = absurd (true≢false (sym e))
among q (u ∷ us) (suc k) t at holds = by (q u) (among q us k t at holds)
  where
    by : (b : Bool) → list_any q us ≡ true → (b || list_any q us) ≡ true
    by true e = refl
    by false e = e

not_true : (b : Bool) → not b ≡ true → b ≡ false
not_true true e = absurd (true≢false (sym e))
not_true false e = refl

found_from : (n k : ℕ) (ts : List ServedShape) (t : ServedShape) → names_differ ts ≡ true → slice_get ts k ≡ Some t → number_from n t.group t.version t.plural ts ≡ Some (n + k)
found_from n k [] t apart at = absurd cc
found_from n zero (u ∷ us) t apart at =
    let same : u ≡ t = cc in
    ap (λ (b : Bool). cond b (Some n) (number_from (suc n) t.group t.version t.plural us)) (subst (λ (x : ServedShape). is_named t.group t.version t.plural x ≡ true) (sym same) (own_names t)) ∙ ap Some (sym (add-zero n))
found_from n (suc k) (u ∷ us) t apart at =
    let parts = and_parts (not (list_any (is_named u.group u.version u.plural) us)) (names_differ us) apart in
    let none = not_true (list_any (is_named u.group u.version u.plural) us) parts.0 in
    go (is_named t.group t.version t.plural u) refl none (found_from (suc n) k us t parts.1 at)
  where
    go : (b : Bool) → is_named t.group t.version t.plural u ≡ b → list_any (is_named u.group u.version u.plural) us ≡ false → number_from (suc n) t.group t.version t.plural us ≡ Some (suc n + k)
        → cond b (Some n) (number_from (suc n) t.group t.version t.plural us) ≡ Some (n + suc k)
    go true is none later = absurd (true≢false (sym (among (is_named u.group u.version u.plural) us k t at (turned t u is)) ∙ none))
    go false is none later = later ∙ ap Some (omega arith)

pub number_found : (ts : List ServedShape) (k : ℕ) (t : ServedShape) → names_differ ts ≡ true → slice_get ts k ≡ Some t → type_number t.group t.version t.plural ts ≡ Some k
number_found ts k t apart at = found_from 0 k ts t apart at ∙ ap Some (omega arith)
