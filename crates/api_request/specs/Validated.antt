-- What a check answers: something, or why the call is refused.
use Rattle.std.specs.Prelude.{ℕ, Bool, List, Option, Some, None, if◌then◌else◌}
use Rattle.std.specs.declared.result.Result.{Result}
use Rattle.std.specs.declared.result.Result.TheVariants.{Ok, Err}
use Rattle.serde_json.specs.Data.{no_items}
use Rattle.api_types.specs.TypesFile.{ServedShape}
use Rattle.api_request.specs.declared.cause_type.CauseType.{CauseType}
use Rattle.api_request.specs.declared.cause_type.CauseType.TheVariants.{FieldValueInvalid}
use Rattle.api_request.specs.declared.reason.Reason.{Reason}
use Rattle.api_request.specs.declared.reason.Reason.TheVariants.{Invalid}
use Rattle.api_request.specs.Details.{fault_message}
use Rattle.api_request.specs.Status.{CallRefusal, in_detail}

abbrev pub Validated : Type 0 → Type 0
Validated X = Result X CallRefusal

abbrev pub and_then : {X Y : Type 0} → Validated X → (X → Validated Y) → Validated Y
and_then (Ok x) f = f x
and_then (Err d) f = Err d

-- a refusal without causes, for no one field
abbrev pub call_refusal : Reason → List ℕ → CallRefusal
call_refusal r message = record { reason = r; message = message; at = None; about = None; causes = no_items }

-- a refusal for what is wrong with the field at a path
abbrev pub field_refusal : Reason → CauseType → List ℕ → List ℕ → CallRefusal
field_refusal r cause path what = record {
  reason = r;
  message = fault_message path what;
  at = Some (record { path = path; cause = cause; what = what });
  about = None;
  causes = no_items;
}

abbrev pub refused_for : {X : Type 0} → Reason → List ℕ → Validated X
refused_for r message = Err (call_refusal r message)

-- nothing to refuse, where the test holds
abbrev pub require : Bool → Reason → List ℕ → Validated (Unit {0})
require b r message = if b then Ok tt else refused_for r message

-- the field breaks a rule of the object
abbrev pub invalid_at : {X : Type 0} → List ℕ → List ℕ → Validated X
invalid_at path what = Err (field_refusal Invalid FieldValueInvalid path what)

abbrev pub require_at : Bool → List ℕ → List ℕ → Validated (Unit {0})
require_at b path what = if b then Ok tt else invalid_at path what

-- what is validated of a call on a type, of the object of this name if it is known: a refusal is in detail
abbrev pub detailed : {X : Type 0} → ServedShape → Option (List ℕ) → Validated X → Validated X
detailed t name (Ok x) = Ok x
detailed t name (Err d) = Err (in_detail t name d)
