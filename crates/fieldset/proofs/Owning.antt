-- The members of an object that owns its texts: their names ascend, and whether there are any.
use Rattle.std.proofs.Common.{◌≡◌, Bool, true, false, List, [], ◌∷◌, length, map, string_cmp, String, Global, string_bytes, refl, ap, ◌∙◌, arith, IsTrue}
use Rattle.std.specs.List.Sorted.{IsStrictlySortedBy}
use Rattle.std.specs.Map.{keys_of}
use Rattle.serde_json.specs.View.{members_view}
use Rattle.serde_json.specs.declared.value.Value.{Value}
use Rattle.fieldpath.specs.Scalars.{ascend}
use Rattle.fieldpath.specs.Encodable.{member_names}
use Rattle.fieldpath.proofs.KeyFields.{ascend_keys}
use Rattle.fieldset.specs.FieldsV1.{is_empty}

abbrev pub Entry : Type 0
Entry = String Global × Value

names_view : (es : List Entry) → member_names (members_view es) ≡ map (λ e. string_bytes e.0) es
names_view [] = refl
names_view (e ∷ es) = ap (λ ns. string_bytes e.0 ∷ ns) (names_view es)

pub names_ascend : (es : List Entry) → IsStrictlySortedBy string_cmp (keys_of es) → ascend (member_names (members_view es)) ≡ true
names_ascend es sorted = ap ascend (names_view es) ∙ ascend_keys es sorted

pub object-is_empty : (b : Bool) (es : List Entry) → (IsTrue b → length es ≡ 0) → (length es ≡ 0 → IsTrue b) → b ≡ is_empty (members_view es)
object-is_empty b [] only holds = holds refl
object-is_empty true (e ∷ es) only holds = absurd (omega (arith, only refl))
object-is_empty false (e ∷ es) only holds = refl
