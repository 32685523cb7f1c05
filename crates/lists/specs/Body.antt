-- The text of a list: its items' texts as they stand, one after the other (Kubernetes API conventions, "Lists and Simple kinds").
use Rattle.std.specs.Prelude.{ℕ, List, [], ◌∷◌, ◌++◌, map, flat_map, Option, Some, None, option_map, codes, decimal}
use Rattle.serde_json.specs.Data.{Data, array, string, object, Items, no_items, item, Members, no_members, put}
use Rattle.serde_json.specs.Written.{compact_text}
use Rattle.history.specs.History.{Key}
use Rattle.history.specs.Seen.{SeenPage}
use Rattle.params.specs.Texts.{token_text}

-- the objects of a type, in a namespace or in all; `kind` is the number of the type, `item_kind` its name
pub record Collection : Type 0 where
  pub kind : ℕ
  pub namespace : Option (List ℕ)
  pub api_version : List ℕ
  pub item_kind : List ℕ

-- texts with commas between them
abbrev pub with_commas : List (List ℕ) → List ℕ
with_commas [] = []
with_commas (t ∷ ts) = t ++ flat_map (λ u. 44 ∷ u) ts

-- where the list goes on
abbrev pub continued_at : ℕ → Key → List ℕ
continued_at revision k = token_text (record { revision = revision; namespace = k.namespace; name = k.name })

abbrev pub with_continue : Option (List ℕ) → Members → Members
with_continue None ms = ms
with_continue (Some token) ms = put (codes "continue") (string token) ms

abbrev pub metadata_by : List ℕ → Option (List ℕ) → Data
metadata_by version token = object (with_continue token (put (codes "resourceVersion") (string version) no_members))

-- the list's revision, and where it goes on, if it does
abbrev pub metadata_of : ℕ → Option (List ℕ) → Data
metadata_of revision token = metadata_by (decimal revision) token

abbrev pub list_kind : Collection → List ℕ
list_kind of = of.item_kind ++ codes "List"

-- the text of the list whose items have these texts
abbrev pub joined_text : Collection → Data → List (List ℕ) → List ℕ
joined_text of metadata texts =
    codes "{\"apiVersion\":" ++ compact_text (string of.api_version) ++ codes ",\"items\":[" ++ with_commas texts ++ codes "],\"kind\":" ++ compact_text (string (list_kind of))
    ++ codes ",\"metadata\":" ++ compact_text metadata ++ codes "}"

abbrev pub list_text : Collection → ℕ → SeenPage → List ℕ
list_text of revision page = joined_text of (metadata_of revision (option_map (continued_at revision) page.next)) (map (λ e. e.1.body) page.found)

-- the texts of items that are compact JSON
abbrev pub item_texts : Items → List (List ℕ)
item_texts no_items = []
item_texts (item d ds) = compact_text d ∷ item_texts ds

-- the same list as a value
abbrev pub list_value : Collection → Data → Items → Data
list_value of metadata items =
    object (put (codes "apiVersion") (string of.api_version) (put (codes "items") (array items) (put (codes "kind") (string (list_kind of)) (put (codes "metadata") metadata no_members))))
