-- FieldsV1 (Kubernetes API reference, ObjectMeta v1, FieldsV1): the JSON value that says a set of paths, as it is printed and
-- as it is read.
use Rattle.std.specs.Prelude.{ℕ, Bool, true, false, not, ◌&&◌, List, [], ◌∷◌, Option, Some, None, codes, is_some, if◌then◌else◌}
use Rattle.std.specs.declared.result.Result.{Result}
use Rattle.std.specs.declared.result.Result.TheVariants.{Ok, Err}
use Rattle.std.specs.FinMap as fin
use Rattle.std.specs.List.{list_any, list_all}
use Rattle.std.specs.Str.{bytes_eq}
use Rattle.serde_json.specs.Data.{Data, null, boolean, number, string, array, object, Members, no_members, member, put}
use Rattle.serde_json.specs.Find.{as_object}
use Rattle.fieldpath.specs.Elements.{Element, NoElement, field_name, name_text, read_element}
use Rattle.fieldpath.specs.Elements as element
use Rattle.pathmap.specs.Contents.{Content, PathSet, mark, marked, nothing, here, under, over, dom}
use Rattle.pathmap.specs.Insides.{inside, heads}
use Rattle.schema.specs.Shape.{atomic, set, keyed, Shape, text, whole, truth, struct_of, map_of, list_of, Fields, no_fields, field}
use Rattle.json_values.specs.Members.{has}
use Rattle.schema.specs.Steps.{TypeRef, value_of, set_item, map_item, is_leaf, step}

-- ---- printed: the value of a set of paths, a trie of objects, each member named by the text of an element

abbrev pub leaf : Data
leaf = object no_members

-- a member for each of these elements
abbrev pub each : (List ℕ → Members) → List (List ℕ) → Members
each inner [] = no_members
each inner (e ∷ es) = member e (object (inner e)) (each inner es)

abbrev pub put_names : List (List ℕ) → Members → Members
put_names [] ms = ms
put_names (n ∷ ns) ms = put_names ns (put (name_text n) leaf ms)

-- an item of the set has `.` and its key fields beside the members below it
abbrev pub with_item : Bool → List (List ℕ) → Members → Members
with_item is_there names below = if is_there then put (codes ".") leaf (put_names names below) else below

abbrev pub is_name : List ℕ → Option (List ℕ) → Bool
is_name known None = false
is_name known (Some f) = bytes_eq known f

abbrev mutual
  -- the members at a prefix that has this shape, of the paths of a content; none below a leaf
  pub members_of : Shape → Content → Members
  members_of text c = no_members
  members_of whole c = no_members
  members_of truth c = no_members
  members_of (struct_of all is_atomic) c = if is_atomic then no_members else each (λ e. members_of_field all (field_name e) (inside e c)) (heads c)
  members_of (map_of inner is_atomic) c = if is_atomic then no_members else each (λ e. members_of inner (inside e c)) (heads c)
  members_of (list_of inner atomic) c = no_members
  members_of (list_of inner set) c = each (λ e. no_members) (heads c)
  members_of (list_of inner (keyed names)) c = each (λ e. with_item (is_some (fin.get (inside e c) [])) names (members_of inner (inside e c))) (heads c)

  -- those of the field of this name
  pub members_of_field : Fields → Option (List ℕ) → Content → Members
  members_of_field no_fields f c = no_members
  members_of_field (field known inner more) f c = if is_name known f then members_of inner c else members_of_field more f c

-- the value of a set of paths
abbrev pub fields_v1_of : Shape → PathSet → Data
fields_v1_of s paths = object (members_of s (marked paths))

-- ---- read: the set of paths that a value says under a schema, or the first fault
-- Faults are looked for depth first, members in byte order of their names. Of one member its name comes first, then its place,
-- then that its value is an object, then what this object has to be, then what stands in it.

-- 1: not an object where one is due
-- 2: a name other than `.` that is no element's text
-- 3: an empty object where members are due, or a `.` or key fields that aren't as they are written
-- 4: an element that the schema has no place for
pub data Refusal : Type 0 where
  not_an_object : Refusal
  bad_key : Refusal
  not_canonical : Refusal
  off_schema : Refusal

abbrev pub Reading : Type 0
Reading = Result Content Refusal

abbrev pub and_then : {X Y : Type 0} → Result X Refusal → (X → Result Y Refusal) → Result Y Refusal
and_then (Ok x) f = f x
and_then (Err e) f = Err e

abbrev pub some_or : {X : Type 0} → Refusal → Option X → Result X Refusal
some_or e None = Err e
some_or e (Some x) = Ok x

-- both, where both read; else the first fault
abbrev pub joined : Reading → Reading → Reading
joined (Err e) rest = Err e
joined (Ok c) (Err e) = Err e
joined (Ok c) (Ok d) = Ok (over c d)

abbrev pub object_in : Data → Result Members Refusal
object_in d = some_or not_an_object (as_object d)

abbrev pub is_empty : Members → Bool
is_empty no_members = true
is_empty (member k d ms) = false

abbrev pub element_in : Result Element NoElement → Result Element Refusal
element_in (Ok e) = Ok e
element_in (Err n) = Err bad_key

abbrev pub dot : List ℕ
dot = codes "."

-- ---- what says of an item of a map list that it is in the set: `.` and its key fields, all or none of them

-- a field that stands in the item's own element
abbrev pub is_key_field : TypeRef → Element → Bool
is_key_field (map_item names all) (element.field f) = list_any (bytes_eq f) names
is_key_field (map_item names all) (element.key ks) = false
is_key_field (map_item names all) (element.value v) = false
is_key_field (value_of s) e = false
is_key_field set_item e = false

abbrev pub has_keys : List (List ℕ) → Members → Bool
has_keys names ms = list_all (λ n. has (name_text n) ms) names

abbrev pub may_have_dot : TypeRef → Members → Bool
may_have_dot (map_item names all) ms = has_keys names ms
may_have_dot (value_of s) ms = false
may_have_dot set_item ms = false

-- their value is `{}`
abbrev pub read_mark : Bool → Data → Reading
read_mark is_due d = and_then (object_in d) (λ ms. if is_due && is_empty ms then Ok nothing else Err not_canonical)

-- ---- what stands at a spot

-- whether the path that leads here is in the set
abbrev pub is_marked : TypeRef → Members → Bool
is_marked (value_of s) ms = is_leaf s
is_marked set_item ms = true
is_marked (map_item names all) ms = has dot ms

abbrev pub top : Bool → Content
top true = here mark
top false = nothing

-- only at a leaf and at an item of a set is an object empty
abbrev pub needs_members : TypeRef → Bool
needs_members (value_of s) = not (is_leaf s)
needs_members set_item = false
needs_members (map_item names all) = true

abbrev pub read_below : List ℕ → Reading → Reading
read_below k read = and_then read (λ c. Ok (under k c))

-- a member, beside all members of its object
abbrev pub read_member : TypeRef → Members → List ℕ → Data → (TypeRef → Reading) → Reading
read_member type_ref beside k d inner =
    if bytes_eq k dot then read_mark (may_have_dot type_ref beside) d
    else and_then (element_in (read_element k)) (λ e.
    if is_key_field type_ref e then read_mark (has dot beside) d
    else and_then (some_or off_schema (step type_ref e)) (λ next. read_below k (inner next)))

abbrev mutual
  pub read_at : TypeRef → Data → Reading
  read_at type_ref null = Err not_an_object
  read_at type_ref (boolean b) = Err not_an_object
  read_at type_ref (number n) = Err not_an_object
  read_at type_ref (string s) = Err not_an_object
  read_at type_ref (array ds) = Err not_an_object
  read_at type_ref (object ms) = if needs_members type_ref && is_empty ms then Err not_canonical else joined (Ok (top (is_marked type_ref ms))) (read_members type_ref ms ms)

  pub read_members : TypeRef → Members → Members → Reading
  read_members type_ref beside no_members = Ok nothing
  read_members type_ref beside (member k d ms) = joined (read_member type_ref beside k d (λ next. read_at next d)) (read_members type_ref beside ms)

-- the set of paths that a value says; `{}` is the empty set
abbrev pub read_fields_v1 : Shape → Data → Result PathSet Refusal
read_fields_v1 s d = and_then (object_in d) (λ ms. and_then (read_members (value_of s) ms ms) (λ c. Ok (dom c)))
