-- The keywords of a schema, and what stands at them.
-- They are those of OpenAPI v3 as Kubernetes takes them (CustomResourceDefinition, "Specifying a structural schema") and
-- `x-kubernetes-list-type`, `x-kubernetes-list-map-keys`, `x-kubernetes-map-type` (Server-Side Apply, "Merge strategy").
use Rattle.std.specs.Prelude.{ℕ, Bool, true, false, not, ◌&&◌, ◌||◌, ◌==◌, length, map, List, [], ◌∷◌, Option, Some, None, is_some, option_and_then, if◌then◌else◌, codes}
use Rattle.std.specs.List.{list_all}
use Rattle.std.specs.Ordering.{nat_cmp}
use Rattle.std.specs.Cmp.Lexicographic.{slice_cmp}
use Rattle.std.specs.FinMap as fin
use Rattle.std.specs.Str.{bytes_eq}
use Rattle.serde_json.specs.Data.{Data, Items, no_items, item, Members, no_members, member}
use Rattle.serde_json.specs.Find.{get_member, as_str}
use Rattle.json_values.specs.Members.{has, text_at, members_at, items_at}
use Rattle.schema.specs.Among.{is_in}
use Rattle.schema.specs.Shape.{Kind, atomic, set, keyed, Shape, text, whole, truth}

abbrev pub has_no : List (List ℕ) → Members → Bool
has_no names ms = list_all (λ k. not (has k ms)) names

abbrev pub has_only : List (List ℕ) → Members → Bool
has_only names no_members = true
has_only names (member k d ms) = is_in names k && has_only names ms

-- a member, where it is there, is an object
abbrev pub is_object_or_absent : List ℕ → Members → Bool
is_object_or_absent k ms = not (has k ms) || is_some (members_at k ms)

-- a member's text, and the default where it isn't there
abbrev pub text_or : List ℕ → Option Data → Option (List ℕ)
text_or default None = Some default
text_or default (Some d) = as_str d

-- ---- keywords

abbrev pub keywords : List (List ℕ)
keywords = codes "type" ∷ codes "properties" ∷ codes "additionalProperties" ∷ codes "x-kubernetes-map-type" ∷ codes "items" ∷ codes "x-kubernetes-list-type" ∷ codes "x-kubernetes-list-map-keys"
    ∷ codes "description" ∷ codes "title" ∷ codes "format" ∷ []

pub data TypeName : Type 0 where
  object_type : TypeName
  array_type : TypeName
  scalar_type : Shape → TypeName

abbrev pub type_named : List ℕ → Option TypeName
type_named s =
    if bytes_eq s (codes "object") then Some object_type
    else if bytes_eq s (codes "array") then Some array_type
    else if bytes_eq s (codes "string") then Some (scalar_type text)
    else if bytes_eq s (codes "integer") then Some (scalar_type whole)
    else if bytes_eq s (codes "boolean") then Some (scalar_type truth)
    else None

abbrev pub type_in : Members → Option TypeName
type_in ms = option_and_then type_named (text_at (codes "type") ms)

abbrev pub is_scalar_type : Option TypeName → Bool
is_scalar_type (Some (scalar_type s)) = true
is_scalar_type _ = false

abbrev pub is_object_type : Option TypeName → Bool
is_object_type (Some object_type) = true
is_object_type _ = false

-- granular or atomic
abbrev pub is_atomic_map : List ℕ → Option Bool
is_atomic_map s = if bytes_eq s (codes "granular") then Some false else if bytes_eq s (codes "atomic") then Some true else None

abbrev pub map_type : Members → Option Bool
map_type ms = option_and_then is_atomic_map (text_or (codes "granular") (get_member (codes "x-kubernetes-map-type") ms))

-- the schema of an item is of a scalar type
abbrev pub is_scalar_schema : Option Members → Bool
is_scalar_schema None = false
is_scalar_schema (Some ms) = is_scalar_type (type_in ms)

-- the properties have each key field, of a scalar type
abbrev pub have_scalars : List (List ℕ) → Option Members → Bool
have_scalars names None = false
have_scalars names (Some ps) = list_all (λ k. is_scalar_schema (members_at k ps)) names

abbrev pub is_granular : Option Bool → Bool
is_granular (Some is_atomic) = not is_atomic
is_granular None = false

-- a granular struct with the key fields
abbrev pub is_keyed_struct : List (List ℕ) → Option Members → Bool
is_keyed_struct names None = false
is_keyed_struct names (Some ms) =
    is_object_type (type_in ms) && not (has (codes "additionalProperties") ms) && is_granular (map_type ms)
    && have_scalars names (members_at (codes "properties") ms)

-- the texts, if all are texts
abbrev pub one_text : Option (List ℕ) → Option (List (List ℕ)) → Option (List (List ℕ))
one_text None ss = None
one_text (Some s) None = None
one_text (Some s) (Some ss) = Some (s ∷ ss)

abbrev pub texts_in : Items → Option (List (List ℕ))
texts_in no_items = Some []
texts_in (item d ds) = one_text (as_str d) (texts_in ds)

-- names as a set
abbrev pub name_set : List (List ℕ) → fin.FinMap (slice_cmp nat_cmp) (Unit {0})
name_set names = fin.from_entries (map (λ n. (n, tt)) names)

-- one or more different names, in byte order
abbrev pub different : List (List ℕ) → Option (List (List ℕ))
different names = if not (length names == 0) && fin.len (name_set names) == length names then Some (fin.keys (name_set names)) else None

-- the key fields' names
abbrev pub key_names : Members → Option (List (List ℕ))
key_names ms = option_and_then different (option_and_then texts_in (items_at (codes "x-kubernetes-list-map-keys") ms))

-- how a list merges, where the rules for its items and its key fields are kept
abbrev pub atomic_kind : Members → Option Kind
atomic_kind ms = if has (codes "x-kubernetes-list-map-keys") ms then None else Some atomic

abbrev pub set_kind : Members → Option Kind
set_kind ms = if has (codes "x-kubernetes-list-map-keys") ms || not (is_scalar_schema (members_at (codes "items") ms)) then None else Some set

abbrev pub keyed_kind : Members → Option Kind
keyed_kind ms = option_and_then (λ names. if is_keyed_struct names (members_at (codes "items") ms) then Some (keyed names) else None) (key_names ms)

abbrev pub kind_named : Members → List ℕ → Option Kind
kind_named ms s =
    if bytes_eq s (codes "atomic") then atomic_kind ms
    else if bytes_eq s (codes "set") then set_kind ms
    else if bytes_eq s (codes "map") then keyed_kind ms
    else None

abbrev pub list_type : Members → Option Kind
list_type ms = option_and_then (kind_named ms) (text_or (codes "atomic") (get_member (codes "x-kubernetes-list-type") ms))
