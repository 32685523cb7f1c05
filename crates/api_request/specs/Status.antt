-- The Status object that tells a refusal (Kubernetes API conventions, "Response Status Kind").
use Rattle.std.specs.Prelude.{◌≡◌, ℕ, false, List, Option, Some, None, option_map, if◌then◌else◌, codes}
use Rattle.serde_json.specs.Data.{Data, array, object, Items, no_items, item, Members, no_members, put}
use Rattle.answers.specs.Status as status
use Rattle.api_request.specs.declared.reason.Reason.{Reason}
use Rattle.api_types.specs.Profiles.{is_kubernetes}
use Rattle.api_types.specs.TypesFile.{ServedShape}
use Rattle.api_request.specs.Details.{About, FieldFault, about_of_type, causes_with, details_of}
use Rattle.api_request.specs.Reasons.{code_of, is_invalid, reason_text}

abbrev pub status_members : Reason → List ℕ → Members
status_members r message = status.status_members (code_of r) (reason_text r) message

-- a refusal without causes
abbrev pub status_value : Reason → List ℕ → Data
status_value r message = object (status_members r message)

abbrev pub put_causes : Items → Members → Members
put_causes cs ms = put (codes "details") (object (put (codes "causes") (array cs) no_members)) ms

-- `details`, where there are causes
abbrev pub with_causes : Items → Members → Members
with_causes no_items ms = ms
with_causes (item c cs) ms = put_causes (item c cs) ms

-- the object and the causes, where the object is known, and else the causes alone
abbrev pub with_details : Option About → Items → Members → Members
with_details None cs ms = with_causes cs ms
with_details (Some a) cs ms = put (codes "details") (object (details_of a cs)) ms

-- why a call is refused: the field at fault, if it is one; and what its Status says of it: the object, if it names one, and causes, which are
-- those of an ownership conflict but in full
pub record CallRefusal : Type 0 where
  pub reason : Reason
  pub message : List ℕ
  pub at : Option FieldFault
  pub about : Option About
  pub causes : Items

abbrev pub call_refusal_value : CallRefusal → Data
call_refusal_value d = object (with_details d.about d.causes (status_members d.reason d.message))

-- the refusal with the object of this name, if it is known, and with the field that breaks a rule
abbrev pub in_full : ServedShape → Option (List ℕ) → CallRefusal → CallRefusal
in_full t name d = record {
  reason = d.reason;
  message = d.message;
  at = d.at;
  about = option_map (about_of_type t d.reason) name;
  causes = causes_with (is_invalid d.reason) d.at d.causes;
}

-- a refusal of a call on a type: of the profile `kubernetes` in full, ..
abbrev pub in_detail : ServedShape → Option (List ℕ) → CallRefusal → CallRefusal
in_detail t name d = if is_kubernetes t.profile then in_full t name d else d

-- .. and of any other as it is
abbrev pub PlainRefusalsStay : Type 0
PlainRefusalsStay = (t : ServedShape) (name : Option (List ℕ)) (d : CallRefusal) → is_kubernetes t.profile ≡ false → in_detail t name d ≡ d
