-- The test of each type's shape says whether they all are objects'.
use Rattle.std.proofs.Common.{◌≡◌, ℕ, true, List, [], ◌∷◌, Option, Some, None, IfSome, Bor, length, ◌<◌, ◌≤◌, get_or, refl, sym, subst}
use Rattle.std.proofs.lemmas.Bool.{and_parts}
use Rattle.std.proofs.lemmas.List.Elements.{All-nil, All-cons, All-head, All-tail}
use Rattle.std.specs.Cmp.Derive.{both_true}
use Rattle.std.specs.List.{All, list_all}
use Rattle.std.specs.Option.{MatchOption}
use Rattle.schema.specs.ObjectShape.{IsObjectShape}
use Rattle.schema.specs.ObjectTest.{is_object_shape}
use Rattle.schema.specs.Shape.{shape}
use Rattle.schema.proofs.ObjectTests.{test, tested}
use Rattle.api_types.specs.declared.served.Served.{Served}

pub tests : (ts : List Served) → All (λ t. IsObjectShape (shape t.schema)) ts → list_all (λ t. is_object_shape (shape t.schema)) ts ≡ true
tests [] all = refl
tests (t ∷ ts) all =
    let is_one : Served → Type 0 = λ u. IsObjectShape (shape u.schema) in both_true (test (shape t.schema) (All-head is_one t ts all)) (tests ts (All-tail is_one t ts all))

pub all_tested : (ts : List Served) → list_all (λ t. is_object_shape (shape t.schema)) ts ≡ true → All (λ t. IsObjectShape (shape t.schema)) ts
all_tested [] h = All-nil _
all_tested (t ∷ ts) h = let parts = and_parts (is_object_shape (shape t.schema)) _ h in All-cons (λ u. IsObjectShape (shape u.schema)) t ts (tested (shape t.schema) parts.0) (all_tested ts parts.1)

-- what is looked up in a list has what each of its elements has
pub one_of : {A : Type 0} (P : A → Type 0) (xs : List A) (k : ℕ) (r : Option (Bor A)) (Q : Bor A → Type 0) → IfSome r (λ x. x.now ≡ get_or xs k x.now) → MatchOption r (length xs ≤ k) (λ x. (k < length xs) × Q x)
    → All P xs → IfSome r (λ x. P x.now)
one_of P xs k None Q is there all = tt
one_of P xs k (Some x) Q is there all = subst P (sym is) (all k x.now there.0)
