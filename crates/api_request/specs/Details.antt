-- What the Status of a refusal says of the object and the field that it is about (Kubernetes API reference, "StatusDetails", "StatusCause").
use Rattle.std.specs.Prelude.{ℕ, Bool, List, ◌++◌, Option, Some, None, if◌then◌else◌, codes}
use Rattle.serde_json.specs.Data.{Data, array, object, string, Items, no_items, item, Members, no_members, put}
use Rattle.json_values.specs.Texts.{unless_empty}
use Rattle.api_types.specs.TypesFile.{ServedShape}
use Rattle.api_request.specs.declared.cause_type.CauseType.{CauseType}
use Rattle.api_request.specs.declared.cause_type.CauseType.TheVariants.{FieldValueRequired, FieldValueDuplicate, FieldValueForbidden, FieldValueInvalid}
use Rattle.api_request.specs.declared.reason.Reason.{Reason}
use Rattle.api_request.specs.Reasons.{is_invalid}

-- ---- the field

-- as it stands in a cause
abbrev pub cause_type_text : CauseType → List ℕ
cause_type_text FieldValueRequired = codes "FieldValueRequired"
cause_type_text FieldValueDuplicate = codes "FieldValueDuplicate"
cause_type_text FieldValueForbidden = codes "FieldValueForbidden"
cause_type_text FieldValueInvalid = codes "FieldValueInvalid"

-- a field at fault: its path as messages show it, and what is wrong with it
pub record FieldFault : Type 0 where
  pub path : List ℕ
  pub cause : CauseType
  pub what : List ℕ

-- the message of a refusal for it; the path itself may have a colon in it
abbrev pub fault_message : List ℕ → List ℕ → List ℕ
fault_message path what = path ++ (codes ": " ++ what)

-- "StatusCause"
abbrev pub cause_of_field : FieldFault → Data
cause_of_field f =
    object (put (codes "field") (string f.path) (put (codes "message") (string f.what) (put (codes "reason") (string (cause_type_text f.cause)) no_members)))

-- the causes of a refusal: the field at fault, where it breaks a rule, and else those that the refusal has
abbrev pub causes_with : Bool → Option FieldFault → Items → Items
causes_with breaks_rule None cs = cs
causes_with breaks_rule (Some f) cs = if breaks_rule then item (cause_of_field f) no_items else cs

-- ---- the object

-- the object that a call is of; the core group has no name
pub record About : Type 0 where
  pub group : Option (List ℕ)
  pub kind : List ℕ
  pub name : List ℕ

-- the object of this name: an object that breaks a rule by its kind, and else by the resource that the call asked for
abbrev pub about_of_type : ServedShape → Reason → List ℕ → About
about_of_type t r name = record { group = unless_empty t.group; kind = if is_invalid r then t.kind else t.plural; name = name }

abbrev pub put_text : List ℕ → Option (List ℕ) → Members → Members
put_text k None ms = ms
put_text k (Some s) ms = put k (string s) ms

abbrev pub about_members : About → Members
about_members a = put_text (codes "group") a.group (put (codes "kind") (string a.kind) (put (codes "name") (string a.name) no_members))

-- the causes, where there are some
abbrev pub put_causes_in : Items → Members → Members
put_causes_in no_items ms = ms
put_causes_in (item c cs) ms = put (codes "causes") (array (item c cs)) ms

-- "StatusDetails"
abbrev pub details_of : About → Items → Members
details_of a cs = put_causes_in cs (about_members a)
