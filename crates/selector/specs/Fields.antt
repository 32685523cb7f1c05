-- What selectors see of an object, and how a text asks for its name (Kubernetes documentation, "Field Selectors").
use Rattle.std.specs.Prelude.{◌≡◌, ◌==◌, ◌&&◌, not, ℕ, Bool, true, if◌then◌else◌, List, [], ◌∷◌, drop, length, Option, Some, None, option_map, codes}
use Rattle.std.specs.List.{list_all, list_any}
use Rattle.std.specs.Str.{bytes_eq}
use Rattle.selector.specs.Grammar.{Sign, equal, different, begins_with, sign_at}
use Rattle.selector.specs.Labels.{Labels}
use Rattle.selector.specs.Requirement.{Condition, equals, differs, Requirement, meets, selects}

-- no label has such a key
abbrev pub name_key : List ℕ
name_key = codes ".metadata.name"

-- what selectors see of an object: its labels, and its name under a key that no label has
abbrev pub attributes : Option (List ℕ) → Labels → Labels
attributes None labels = labels
attributes (Some name) labels = (name_key, name) ∷ labels

-- one of the requirements is on the name
abbrev pub asks_name : List Requirement → Bool
asks_name requirements = list_any (λ r. bytes_eq r.key name_key) requirements

-- whatever the name is, the labels alone decide
abbrev pub LabelsDecide : List Requirement → Type 0
LabelsDecide requirements = (name : Option (List ℕ)) (labels : Labels) → selects requirements (attributes name labels) ≡ selects requirements labels

-- whatever the labels are, the name decides so
abbrev pub NameDecides : List Requirement → List ℕ → Bool → Type 0
NameDecides requirements name is_selected = (labels : Labels) → selects requirements (attributes (Some name) labels) ≡ is_selected

-- what is selected has this name
abbrev pub AsksFor : List Requirement → List ℕ → Type 0
AsksFor requirements wanted = (name : List ℕ) (labels : Labels) → selects requirements (attributes (Some name) labels) ≡ true → name ≡ wanted

-- the requirement is on the name, which doesn't meet it
abbrev pub refuses : List ℕ → Requirement → Bool
refuses name r = bytes_eq r.key name_key && not (meets r.condition (Some name))

-- ---- metadata.name=NAME, metadata.name==NAME, metadata.name!=NAME

abbrev pub name_path : List ℕ
name_path = codes "metadata.name"

-- no comma, equals sign or backslash: these would have to be escaped
abbrev pub is_plain : ℕ → Bool
is_plain byte = not (byte == 44) && not (byte == 61) && not (byte == 92)

abbrev pub is_plain_text : List ℕ → Bool
is_plain_text text = list_all is_plain text

-- any such text, also one that no object has as its name
abbrev pub name_of : List ℕ → Option (List ℕ)
name_of text = if is_plain_text text then Some text else None

abbrev pub name_asked : Option (Sign × List ℕ) → Option Condition
name_asked None = None
name_asked (Some (equal, text)) = option_map equals (name_of text)
name_asked (Some (different, text)) = option_map differs (name_of text)

abbrev pub about_name : Condition → Requirement
about_name condition = record { key = name_key; condition = condition }

abbrev pub field_of : List ℕ → Option Requirement
field_of text = if begins_with name_path text then option_map about_name (name_asked (sign_at (drop (length name_path) text))) else None

-- the empty text asks nothing, any other has one part
abbrev pub fields_of : List ℕ → Option (List Requirement)
fields_of [] = Some []
fields_of (b ∷ bs) = option_map (λ r. r ∷ []) (field_of (b ∷ bs))
