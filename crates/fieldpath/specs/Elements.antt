-- The elements of paths, their texts, and how a path is shown.
-- FieldsV1 (Kubernetes API reference, ObjectMeta v1): `f:<name>`, `v:<value>`, `k:<keys>`.
use Rattle.std.specs.Prelude.{◌≡◌, ℕ, ℤ, Bool, List, [], ◌∷◌, ◌++◌, Option, Some, None, if◌then◌else◌, option_map, take, drop}
use Rattle.std.specs.declared.result.Result.{Result}
use Rattle.std.specs.declared.result.Result.TheVariants.{Ok, Err}
use Rattle.std.specs.Str.{bytes_eq}
use Rattle.serde_json.specs.Data.{Data, null, boolean, number, string, array, object, Members, no_members, member}
use Rattle.serde_json.specs.Find.{as_i64, of_integer}
use Rattle.serde_json.specs.Written.{compact_text}
use Rattle.serde_json.specs.Read.{read}
use Rattle.fieldpath.specs.Paths.{PathTexts}

pub data Scalar : Type 0 where
  text : List ℕ → Scalar
  whole : ℤ → Scalar
  truth : Bool → Scalar

-- key fields with their values, by name
abbrev pub KeyFields : Type 0
KeyFields = List (List ℕ × Scalar)

pub data Element : Type 0 where
  field : List ℕ → Element
  key : KeyFields → Element
  value : Scalar → Element

-- ---- texts

-- a scalar as JSON
abbrev pub scalar_data : Scalar → Data
scalar_data (text s) = string s
scalar_data (whole n) = number (of_integer n)
scalar_data (truth b) = boolean b

abbrev pub key_members : KeyFields → Members
key_members [] = no_members
key_members (k ∷ ks) = member k.0 (scalar_data k.1) (key_members ks)

-- `f:` and the name
unfoldable pub name_text : List ℕ → List ℕ
name_text f = 102 ∷ 58 ∷ f

-- `k:` and the compact JSON object of the key fields
unfoldable pub key_text : Members → List ℕ
key_text ms = 107 ∷ 58 ∷ compact_text (object ms)

-- `v:` and the compact JSON of the scalar
unfoldable pub scalar_text : Data → List ℕ
scalar_text d = 118 ∷ 58 ∷ compact_text d

abbrev pub element_text : Element → List ℕ
element_text (field f) = name_text f
element_text (key ks) = key_text (key_members ks)
element_text (value s) = scalar_text (scalar_data s)

-- ---- reading a text

-- why a text is no element: no known prefix, no JSON, or not the text that the element is printed as
pub data NoElement : Type 0 where
  no_prefix : NoElement
  bad_json : NoElement
  not_canonical : NoElement

abbrev pub whole_scalar : Option ℤ → Option Scalar
whole_scalar None = None
whole_scalar (Some n) = Some (whole n)

-- a text, a whole number within 64 bits signed, or a truth value
abbrev pub scalar_of : Data → Option Scalar
scalar_of null = None
scalar_of (boolean b) = Some (truth b)
scalar_of (number n) = whole_scalar (as_i64 n)
scalar_of (string s) = Some (text s)
scalar_of (array ds) = None
scalar_of (object ms) = None

abbrev pub one_more : List ℕ → Option Scalar → Option KeyFields → Option KeyFields
one_more k None ks = None
one_more k (Some s) None = None
one_more k (Some s) (Some ks) = Some ((k, s) ∷ ks)

abbrev pub keys_of_members : Members → Option KeyFields
keys_of_members no_members = Some []
keys_of_members (member k d ms) = one_more k (scalar_of d) (keys_of_members ms)

-- at least one key field
abbrev pub some_keys : Option KeyFields → Option Element
some_keys None = None
some_keys (Some []) = None
some_keys (Some (k ∷ ks)) = Some (key (k ∷ ks))

abbrev pub keys_of : Data → Option Element
keys_of null = None
keys_of (boolean b) = None
keys_of (number n) = None
keys_of (string s) = None
keys_of (array ds) = None
keys_of (object ms) = some_keys (keys_of_members ms)

abbrev pub if_canonical : List ℕ → Option Element → Result Element NoElement
if_canonical s None = Err not_canonical
if_canonical s (Some e) = if bytes_eq (element_text e) s then Ok e else Err not_canonical

-- what JSON after the prefix stands for; `s` is the whole text
abbrev pub read_json : List ℕ → (Data → Option Element) → Option Data → Result Element NoElement
read_json s of None = Err bad_json
read_json s of (Some d) = if_canonical s (of d)

-- `f:`, `k:`, `v:`
abbrev pub has_prefix : ℕ → List ℕ → Bool
has_prefix kind s = bytes_eq (take 2 s) (kind ∷ 58 ∷ [])

-- what stands behind the prefix of a kind
abbrev pub text_after : ℕ → List ℕ → Option (List ℕ)
text_after kind s = if has_prefix kind s then Some (drop 2 s) else None

-- the text is that of a field's element
abbrev pub is_field_text : List ℕ → Bool
is_field_text = has_prefix 102

-- of a field's element, the name
abbrev pub field_name : List ℕ → Option (List ℕ)
field_name = text_after 102

-- of a map list item's element, the JSON of the key fields
abbrev pub keys_json : List ℕ → Option (List ℕ)
keys_json = text_after 107

-- of a set item's element, the JSON of the scalar
abbrev pub scalar_json : List ℕ → Option (List ℕ)
scalar_json = text_after 118

-- exactly the texts of elements are read
unfoldable pub read_element : List ℕ → Result Element NoElement
read_element s =
    if has_prefix 102 s then Ok (field (drop 2 s))
    else if has_prefix 107 s then read_json s keys_of (read (drop 2 s))
    else if has_prefix 118 s then read_json s (λ d. option_map value (scalar_of d)) (read (drop 2 s))
    else Err no_prefix

-- a text that some element has
abbrev pub IsElementText : List ℕ → Type 0
IsElementText s = (e : Element) × (read_element s ≡ Ok e)

-- the text of a set item's element, if the value is a scalar
abbrev pub set_item_text : Data → Option (List ℕ)
set_item_text d = option_map (λ v. scalar_text d) (scalar_of d)

-- the text of a map list item's element, if the value is an object of one or more scalars
abbrev pub list_item_text : Data → Option (List ℕ)
list_item_text d = option_map (λ e. 107 ∷ 58 ∷ compact_text d) (keys_of d)

-- ---- showing (Server-Side Apply, "Conflicts": `.spec.ports[name="web"].port`)

-- `name=value`
abbrev pub shown_field : List ℕ × Scalar → List ℕ
shown_field k = k.0 ++ 61 ∷ compact_text (scalar_data k.1)

-- several with commas between
abbrev pub shown_keys : KeyFields → List ℕ
shown_keys [] = []
shown_keys (k ∷ []) = shown_field k
shown_keys (k ∷ l ∷ ks) = shown_field k ++ 44 ∷ shown_keys (l ∷ ks)

-- `.name`, `[a=1,b="x"]`, `[="a"]`
abbrev pub shown_element : Element → List ℕ
shown_element (field f) = 46 ∷ f
shown_element (key ks) = 91 ∷ shown_keys ks ++ 93 ∷ []
shown_element (value s) = 91 ∷ 61 ∷ compact_text (scalar_data s) ++ 93 ∷ []

-- no path has a text that is no element's
abbrev pub shown_read : Result Element NoElement → List ℕ
shown_read (Ok e) = shown_element e
shown_read (Err e) = []

unfoldable pub shown : PathTexts → List ℕ
shown [] = []
shown (s ∷ ss) = shown_read (read_element s) ++ shown ss
