-- What a lawful change of types says of each of them.
use Rattle.std.proofs.Common.{◌≡◌, ℕ, zero, suc, ◌==◌, Bool, true, false, true≢false, List, [], ◌∷◌, map, length, Option, Some, None, is_some, String, Global, arith, sym, ap, ◌∙◌, subst}
use Rattle.std.specs.List.{slice_get}
use Rattle.std.proofs.lemmas.Bool.{and_parts}
use Rattle.std.proofs.lemmas.Bool.Decides.{nat_tests}
use Rattle.std.specs.Str.{bytes_eq}
use Rattle.schema.specs.Becoming.{is_end, may_become}
use Rattle.api_types.specs.Profiles.{is_same}
use Rattle.api_types.specs.Retyping.{is_lawful_change, type_may_become, types_may_become}
use Rattle.api_types.specs.Served.{served}
use Rattle.schema.specs.Shape.{fields_in}
use Rattle.api_types.specs.TypesFile.{ServedShape}
use Rattle.schema.specs.declared.schema.Schema.{Schema}
use Rattle.api_types.specs.declared.served.Served.{Served}

full : (n : ℕ) → (suc n == 0) ≡ false
full n = grind (arith, nat_tests)

pub no_field_left : (fs : List (String Global × Schema)) (b : Bool) → b ≡ (length fs == 0) → b ≡ is_end (fields_in fs)
no_field_left [] b is = is
no_field_left (f ∷ fs) b is = is ∙ full (length fs)

pub no_type_left : (ts : List Served) (b : Bool) → b ≡ (length ts == 0) → b ≡ types_may_become [] (map served ts)
no_type_left [] b is = is
no_type_left (t ∷ ts) b is = is ∙ full (length ts)

-- both there, and the one may become the other; or neither
abbrev pub Pair : Option ServedShape → Option ServedShape → Type 0
Pair None None = Unit {0}
Pair None (Some u) = ⊥
Pair (Some t) None = ⊥
Pair (Some t) (Some u) = type_may_become t u ≡ true

pub pairs : (ts us : List ServedShape) → types_may_become ts us ≡ true → (k : ℕ) → Pair (slice_get ts k) (slice_get us k)
pairs [] [] h k = tt
pairs [] (u ∷ us) h k = absurd (true≢false (sym h))
pairs (t ∷ ts) [] h k = absurd (true≢false (sym h))
pairs (t ∷ ts) (u ∷ us) h zero = (and_parts (type_may_become t u) (types_may_become ts us) h).0
pairs (t ∷ ts) (u ∷ us) h (suc k) = pairs ts us (and_parts (type_may_become t u) (types_may_become ts us) h).1 k

pub lawful_pairs : (ts us : List ServedShape) → is_lawful_change ts us ≡ true → (k : ℕ) → Pair (slice_get ts k) (slice_get us k)
unfolding is_lawful_change
lawful_pairs = pairs

pub none_then : (o p : Option ServedShape) → Pair o p → None ≡ o → None ≡ p
none_then None None h is = is
none_then None (Some u) h is = absurd h
none_then (Some t) p h is = absurd (true≢false (sym (ap is_some is)))

pub none_before : (o p : Option ServedShape) → Pair o p → None ≡ p → None ≡ o
none_before None None h is = is
none_before (Some t) None h is = absurd h
none_before o (Some u) h is = absurd (true≢false (sym (ap is_some is)))

shapes_of : (t u : ServedShape) → type_may_become t u ≡ true → may_become t.shape u.shape ≡ true
shapes_of t u h =
    let group = and_parts (bytes_eq t.group u.group) _ (and_parts (is_same t.profile u.profile) _ h).1 in
    let version = and_parts (bytes_eq t.version u.version) _ group.1 in
    let kind = and_parts (bytes_eq t.kind u.kind) _ version.1 in
    (and_parts (bytes_eq t.plural u.plural) _ kind.1).1

pub both_shapes : (o p : Option ServedShape) (t u : ServedShape) → Pair o p → Some t ≡ o → Some u ≡ p → may_become t.shape u.shape ≡ true
both_shapes o p t u h old new = shapes_of t u (subst (λ x. Pair (Some t) x) (sym new) (subst (λ x. Pair x p) (sym old) h))
