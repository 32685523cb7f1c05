-- The element that an `Elem` stands for, and what reading one answers.
use Rattle.std.specs.Prelude.{◌≡◌, ℕ, List, map, Option, Some, None, String, string_bytes}
use Rattle.std.specs.declared.alloc.Global.{Global}
use Rattle.std.specs.declared.result.Result.{Result}
use Rattle.std.specs.declared.result.Result.TheVariants.{Ok, Err}
use Rattle.serde_json.specs.Data.{Data}
use Rattle.fieldpath.specs.Elements.{Element, field, key, value, NoElement, no_prefix, bad_json, not_canonical, IsElementText, read_element}
use Rattle.fieldpath.specs.Scalars.{scalar}
use Rattle.fieldpath.specs.declared.elem.Elem.{Elem}
use Rattle.fieldpath.specs.declared.elem.Elem.TheVariants as made
use Rattle.fieldpath.specs.declared.elem.ElemFault.{ElemFault}
use Rattle.fieldpath.specs.declared.elem.ElemFault.TheVariants as faults

abbrev pub element : Elem → Element
element (made.Field s) = field (string_bytes s)
element (made.Key ks) = key ks
element (made.Value s) = value (scalar s)

-- What a call returned, by its view, is what is read, unless memory ran out.
abbrev pub Returns : {X Y : Type 0} → (X → Y) → Result X ElemFault → Result Y NoElement → Type 0
Returns view (Ok x) read = read ≡ Ok (view x)
Returns view (Err faults.NoPrefix) read = read ≡ Err no_prefix
Returns view (Err faults.BadJson) read = read ≡ Err bad_json
Returns view (Err faults.NotCanonical) read = read ≡ Err not_canonical
Returns view (Err faults.Memory) read = Unit {0}

-- Each text is the one of its element.
abbrev pub AreTextsOf : List Elem → List (String Global) → Type 0
AreTextsOf es ts = map Ok (map element es) ≡ map read_element (map string_bytes ts)

-- What a call returned is this text, where it is an element's.
abbrev pub ReturnsText : List ℕ → Result (String Global) ElemFault → Result Element NoElement → Type 0
ReturnsText text (Ok s) read = (string_bytes s ≡ text) × IsElementText text
ReturnsText text (Err faults.NoPrefix) read = read ≡ Err no_prefix
ReturnsText text (Err faults.BadJson) read = read ≡ Err bad_json
ReturnsText text (Err faults.NotCanonical) read = read ≡ Err not_canonical
ReturnsText text (Err faults.Memory) read = Unit {0}

-- JSON, or that there is none
abbrev pub json_or_bad : Option Data → Result Data NoElement
json_or_bad None = Err bad_json
json_or_bad (Some d) = Ok d
