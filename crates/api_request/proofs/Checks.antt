-- Checks that were passed.
use Rattle.std.proofs.Common.{◌≡◌, ℕ, Bool, true, false, List, [], Option, Ok, Err, cond, refl, sym, ap, true≢false}
use Rattle.history.specs.History.{Change}
use Rattle.api_types.specs.Profiles.{is_kubernetes}
use Rattle.api_types.specs.TypesFile.{ServedShape}
use Rattle.api_request.specs.declared.reason.Reason.{Reason}
use Rattle.api_request.specs.Calls.{Plan}
use Rattle.api_request.specs.Validated.{Validated, and_then, require, require_at, detailed}
use Rattle.api_request.specs.Status.{CallRefusal, PlainRefusalsStay, in_full}

abbrev pub is_ok : {X : Type 0} → Validated X → Bool
is_ok (Ok x) = true
is_ok (Err d) = false

abbrev pub or_else : {X : Type 0} → X → Validated X → X
or_else x (Ok y) = y
or_else x (Err d) = x

pub no_err : {A X : Type 0} (d : CallRefusal) (y : X) → Err d ≡ Ok y → A
no_err d y e = absurd (true≢false (sym (ap is_ok e)))

pub ok_is : {X : Type 0} (x y : X) → ◌≡◌ {A = Validated X} (Ok x) (Ok y) → x ≡ y
ok_is x y e = ap (or_else x) e

pub passed : {X Y : Type 0} (j : Validated X) (f : X → Validated Y) (y : Y) → and_then j f ≡ Ok y → (x : X) × (j ≡ Ok x) × (f x ≡ Ok y)
passed (Ok x) f y e = (x, refl, e)
passed (Err d) f y e = no_err d y e

pub held : (b : Bool) (r : Reason) (message : List ℕ) (u : Unit {0}) → require b r message ≡ Ok u → b ≡ true
held true r message u e = refl
held false r message u e = absurd (true≢false (sym (ap is_ok e)))

pub held_at : (b : Bool) (path what : List ℕ) (u : Unit {0}) → require_at b path what ≡ Ok u → b ≡ true
held_at true path what u e = refl
held_at false path what u e = absurd (true≢false (sym (ap is_ok e)))

-- in detail, only a refusal is another
pub detailed_ok : {X : Type 0} (t : ServedShape) (name : Option (List ℕ)) (j : Validated X) (x : X) → detailed t name j ≡ Ok x → j ≡ Ok x
detailed_ok t name (Ok y) x e = e
detailed_ok t name (Err d) x e = no_err _ x e

pub plain_refusals_stay : PlainRefusalsStay
plain_refusals_stay t name d other = ap (λ (b : Bool). cond b (in_full t name d) d) other

pub plain_stays : {X : Type 0} (t : ServedShape) (name : Option (List ℕ)) (j : Validated X) → is_kubernetes t.profile ≡ false → detailed t name j ≡ j
plain_stays t name (Ok x) other = refl
plain_stays t name (Err d) other = ap Err (plain_refusals_stay t name d other)

abbrev pub changes_in : Validated Plan → List Change
changes_in (Ok p) = p.changes
changes_in (Err d) = []
