-- For private clauses: what is read of a JSON text's tokens, one value after another, as `serde_json` reads them.
use Rattle.std.specs.Prelude.{◌≡◌, ℕ, Bool, true, false, List, [], ◌∷◌, length, Option, Some, option_and_then}
use Rattle.json.specs.Token.{Token}
use Rattle.json.specs.Json.{items, members, value}
use Rattle.serde_json.specs.Data.{Data, Items, Members, no_members}
use Rattle.serde_json.specs.Find.{get, get_member}
use Rattle.serde_json.specs.Read.{converted, of_items, of_json, of_members, read}
use Rattle.json_values.specs.Texts.{texts_of}
use Rattle.selector.specs.Labels.{Labels}
use Rattle.lists.specs.Labels.{labels_by}

-- the value that comes first, and what is left; of an array and an object behind their opening bracket
abbrev pub reads : ℕ → List Token → Option (Data × List Token)
reads depth ts = converted of_json (value depth ts)

abbrev pub reads_items : ℕ → List Token → Option (Items × List Token)
reads_items depth ts = converted of_items (items (value depth) (length ts) ts)

abbrev pub reads_members : ℕ → List Token → Option (Members × List Token)
reads_members depth ts = converted (λ ms. of_members ms no_members) (members (value depth) (length ts) ts)

-- `new` is what is left behind the value that comes first
abbrev pub Passes : ℕ → List Token → List Token → Type 0
Passes depth old new = (d : Data) × (reads depth old ≡ Some (d, new))

abbrev pub PassesItems : ℕ → List Token → List Token → Type 0
PassesItems depth old new = (ds : Items) × (reads_items depth old ≡ Some (ds, new))

abbrev pub PassesMembers : ℕ → List Token → List Token → Type 0
PassesMembers depth old new = (ms : Members) × (reads_members depth old ≡ Some (ms, new))

-- whether it is the opening bracket of an object
abbrev pub begins_object : Token → Bool
begins_object Token.begin_object = true
begins_object Token.end_object = false
begins_object Token.begin_array = false
begins_object Token.end_array = false
begins_object (Token.key s) = false
begins_object (Token.string s) = false
begins_object (Token.number s) = false
begins_object (Token.boolean b) = false
begins_object Token.null = false
begins_object Token.bad = false

-- what stands at a path of names
abbrev pub data_at : List (List ℕ) → Data → Option Data
data_at [] d = Some d
data_at (name ∷ path) d = option_and_then (data_at path) (get name d)

-- the value that comes first is passed, and these are the texts of the object that stands at the path in it
abbrev pub Finds : ℕ → List (List ℕ) → List Token → Labels → List Token → Type 0
Finds depth path old texts new = (d : Data) × (reads depth old ≡ Some (d, new)) × (texts ≡ labels_by (data_at path d))

-- the same among members, at a path below one of them
abbrev pub FindsIn : ℕ → List ℕ → List (List ℕ) → List Token → Labels → List Token → Type 0
FindsIn depth name path old texts new = (ms : Members) × (reads_members depth old ≡ Some (ms, new)) × (texts ≡ labels_by (option_and_then (data_at path) (get_member name ms)))

-- each of the members is a text
abbrev pub ReadsTexts : ℕ → List Token → Labels → List Token → Type 0
ReadsTexts depth old texts new = (ms : Members) × (reads_members depth old ≡ Some (ms, new)) × (texts_of ms ≡ Some texts)

-- the same of a whole text
abbrev pub texts_are : List ℕ → List (List ℕ) → Labels → Type 0
texts_are text path texts = (d : Data) × (read text ≡ Some d) × (texts ≡ labels_by (data_at path d))
