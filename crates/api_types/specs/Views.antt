-- What contracts see of types that only this crate names, and of what its calls answer.
use Rattle.std.specs.Prelude.{◌≡◌}
use Rattle.std.specs.declared.result.Result.{Result}
use Rattle.std.specs.declared.result.Result.TheVariants.{Ok, Err}
use Rattle.schema.specs.Shape.{text, whole, truth, kind_of}
use Rattle.api_types.specs.Keywords.{object_type, array_type, scalar_type}
use Rattle.api_types.specs.Keywords as keywords
use Rattle.api_types.specs.Forms.{object_form, list_form, scalar_form}
use Rattle.api_types.specs.Forms as forms
use Rattle.api_types.specs.Refusals.{Refusal, unknown_keyword, unknown_type, misfit, too_deep, same_names, not_the_form}
use Rattle.api_types.specs.declared.keywords.TypeName.{TypeName}
use Rattle.api_types.specs.declared.keywords.TypeName.TheVariants as names
use Rattle.api_types.specs.declared.forms.Form.{Form}
use Rattle.api_types.specs.declared.forms.Form.TheVariants as form
use Rattle.api_types.specs.declared.fault.TypesFault.{TypesFault}
use Rattle.api_types.specs.declared.fault.TypesFault.TheVariants as fault

abbrev pub type_name : TypeName → keywords.TypeName
type_name names.Object = object_type
type_name names.Array = array_type
type_name names.Text = scalar_type text
type_name names.Whole = scalar_type whole
type_name names.Truth = scalar_type truth

abbrev pub form_view : Form → forms.Form
form_view (form.Object is_atomic) = object_form is_atomic
form_view (form.List kind) = list_form (kind_of kind)
form_view form.Text = scalar_form text
form_view form.Whole = scalar_form whole
form_view form.Truth = scalar_form truth

-- a fault is the definition's refusal; out of memory says nothing of it
abbrev pub FailsWith : {Y : Type 0} → TypesFault → Result Y Refusal → Type 0
FailsWith fault.UnknownKeyword answer = answer ≡ Err unknown_keyword
FailsWith fault.UnknownType answer = answer ≡ Err unknown_type
FailsWith fault.Misfit answer = answer ≡ Err misfit
FailsWith fault.TooDeep answer = answer ≡ Err too_deep
FailsWith fault.SameNames answer = answer ≡ Err same_names
FailsWith fault.NotTheForm answer = answer ≡ Err not_the_form
FailsWith fault.Memory answer = Unit {0}

-- a fault tells the refusal, and is not out of memory
abbrev pub ReportsFault : TypesFault → Refusal → Type 0
ReportsFault fault.UnknownKeyword e = e ≡ unknown_keyword
ReportsFault fault.UnknownType e = e ≡ unknown_type
ReportsFault fault.Misfit e = e ≡ misfit
ReportsFault fault.TooDeep e = e ≡ too_deep
ReportsFault fault.SameNames e = e ≡ same_names
ReportsFault fault.NotTheForm e = e ≡ not_the_form
ReportsFault fault.Memory e = ⊥

-- what a call returned, by its view, is what the definition answers, or memory ran out
abbrev pub Returns : {X Y : Type 0} → (X → Y) → Result X TypesFault → Result Y Refusal → Type 0
Returns view (Ok x) answer = answer ≡ Ok (view x)
Returns view (Err e) answer = FailsWith e answer
