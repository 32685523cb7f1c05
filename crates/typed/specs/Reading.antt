-- The content that a value spells under a shape, or the first fault in it.
-- Faults are looked for depth first, members in byte order, items by their place. A null member is absent.
-- Server-Side Apply, "Merge strategy": sets, lists by key, atomic values.
use Rattle.std.specs.Prelude.{ℕ, ℤ, suc, not, ◌&&◌, Bool, true, false, List, [], ◌∷◌, Option, Some, None, option_and_then, is_some, if◌then◌else◌}
use Rattle.std.specs.declared.result.Result.TheVariants.{Ok, Err}
use Rattle.std.specs.Str.{bytes_eq}
use Rattle.std.specs.List.{list_any}
use Rattle.serde_json.specs.Data.{Data, array, object, Items, no_items, item, Members, no_members, member, put}
use Rattle.serde_json.specs.Find.{get_member, as_null, as_bool, as_number, as_i64, as_str, as_object, as_array}
use Rattle.serde_json.specs.Written.{compact_text}
use Rattle.fieldpath.specs.Elements.{name_text, set_item_text, list_item_text}
use Rattle.pathmap.specs.Contents.{Content, nothing, here, under, over}
use Rattle.pathmap.specs.Contents as leaf_value
use Rattle.schema.specs.Shape.{Kind, atomic, set, keyed, Shape, text, whole, truth, struct_of, map_of, list_of, Fields, no_fields, field}
use Rattle.typed.specs.declared.fault.Cause.TheVariants.{NotAnObject, UnknownField, WrongType, DuplicateItem, KeyFieldMissing}
use Rattle.typed.specs.Faults.{Read, shown_name, shown_place, below, and_then, some_or}

abbrev pub is_null : Data → Bool
is_null d = is_some (as_null d)

-- an object where an item is due: a null item is of a wrong type
abbrev pub object_item : Data → Read Members
object_item d = some_or (if is_null d then WrongType else NotAnObject) (as_object d)

-- ---- scalars

abbrev pub text_in : Data → Read (List ℕ)
text_in d = some_or WrongType (as_str d)

-- within 64 bits signed
abbrev pub whole_in : Data → Read ℤ
whole_in d = some_or WrongType (option_and_then as_i64 (as_number d))

abbrev pub truth_in : Data → Read Bool
truth_in d = some_or WrongType (as_bool d)

-- ---- key fields of an item

abbrev pub is_there : Option Data → Bool
is_there None = false
is_there (Some d) = not (is_null d)

abbrev pub have_keys : List (List ℕ) → Members → Bool
have_keys [] ms = true
have_keys (k ∷ ks) ms = is_there (get_member k ms) && have_keys ks ms

abbrev pub put_some : List ℕ → Option Data → Members → Members
put_some k None ms = ms
put_some k (Some d) ms = put k d ms

abbrev pub keys_in : List (List ℕ) → Members → Members
keys_in [] ms = no_members
keys_in (k ∷ ks) ms = put_some k (get_member k ms) (keys_in ks ms)

-- ---- the value at a leaf: null members dropped at every depth, nothing else changed, repeats not looked for

abbrev pub plain_members : (List ℕ → Data → Read Data) → Members → Read Members
plain_members inner no_members = Ok no_members
plain_members inner (member k d ms) =
    if is_null d then plain_members inner ms else and_then (below (shown_name k) (λ x. x) (inner k d)) (λ x. below [] (member k x) (plain_members inner ms))

abbrev pub plain_items : (Data → Read Data) → ℕ → Items → Read Items
plain_items inner i no_items = Ok no_items
plain_items inner i (item d ds) = and_then (below (shown_place i) (λ x. x) (inner d)) (λ x. below [] (item x) (plain_items inner (suc i) ds))

-- an item of a list inside an atomic value: its kind, then a missing key field, then its members
abbrev pub plain_item : Kind → (Data → Read Data) → (Members → Read Data) → Data → Read Data
plain_item (keyed names) inner of_members d = and_then (object_item d) (λ ms. if have_keys names ms then of_members ms else Err (KeyFieldMissing, []))
plain_item set inner of_members d = inner d
plain_item atomic inner of_members d = if is_null d then Err (WrongType, []) else inner d

abbrev mutual
  pub plain_of : Shape → Data → Read Data
  plain_of text d = below [] (λ s. d) (text_in d)
  plain_of whole d = below [] (λ n. d) (whole_in d)
  plain_of truth d = below [] (λ b. d) (truth_in d)
  plain_of (struct_of all is_atomic) d = and_then (some_or NotAnObject (as_object d)) (λ ms. below [] object (plain_members (λ k e. plain_of_field all k e) ms))
  plain_of (map_of s is_atomic) d = and_then (some_or NotAnObject (as_object d)) (λ ms. below [] object (plain_members (λ k e. plain_of s e) ms))
  plain_of (list_of s kind) d = and_then (some_or WrongType (as_array d)) (λ ds. below [] array (plain_items (plain_item kind (λ e. plain_of s e) (λ ms. plain_of s (object ms))) 0 ds))

  pub plain_of_field : Fields → List ℕ → Data → Read Data
  plain_of_field no_fields k d = Err (UnknownField, [])
  plain_of_field (field known s more) k d = if bytes_eq known k then plain_of s d else plain_of_field more k d

-- `{}` and `[]` are absence
abbrev pub leaf : Data → Content
leaf (object no_members) = nothing
leaf (array no_items) = nothing
leaf d = here (leaf_value.plain (compact_text d))

-- ---- the content

-- what is read of a member's value, in its object
abbrev pub at_field : List ℕ → Read Content → Read Content
at_field k = below (shown_name k) (under (name_text k))

-- both, where both read; else the first fault
abbrev pub joined : Read Content → Read Content → Read Content
joined (Err e) rest = Err e
joined (Ok c) (Err e) = Err e
joined (Ok c) (Ok d) = Ok (over c d)

-- a member that is null is absent, whatever its name
abbrev pub one_member : (List ℕ → Data → Read Content) → List ℕ → Data → Read Content
one_member inner k d = if is_null d then Ok nothing else at_field k (inner k d)

abbrev pub members_at : (List ℕ → Data → Read Content) → Members → Read Content
members_at inner no_members = Ok nothing
members_at inner (member k d ms) = joined (one_member inner k d) (members_at inner ms)

-- an item's content under its element, with its mark
abbrev pub marked : List ℕ → Content → Content
marked e c = under e (over (here leaf_value.mark) c)

-- one item more, and what the rest gives beside the elements so far
abbrev pub one_item : List (List ℕ) → Read (List ℕ × Content) → (List (List ℕ) → Read Content) → Read Content
one_item seen (Err e) rest = Err e
one_item seen (Ok e) rest = if list_any (bytes_eq e.0) seen then Err (DuplicateItem, []) else joined (Ok (marked e.0 e.1)) (rest (e.0 ∷ seen))

-- items by their places: each gives its element and its content; an item whose element an earlier one has is a fault of the list
abbrev pub items_at : (Data → Read (List ℕ × Content)) → ℕ → List (List ℕ) → Items → Read Content
items_at inner i seen no_items = Ok nothing
items_at inner i seen (item d ds) = one_item seen (below (shown_place i) (λ e. e) (inner d)) (λ more. items_at inner (suc i) more ds)

-- the element of an item, if it has one, and what stands below it
abbrev pub named_item : Option (List ℕ) → Content → Read (List ℕ × Content)
named_item None c = Err (WrongType, [])
named_item (Some e) c = Ok (e, c)

-- an item of a set is its scalar
abbrev pub set_item : (Data → Read Data) → Data → Read (List ℕ × Content)
set_item inner d = and_then (inner d) (λ x. named_item (set_item_text x) nothing)

-- an item of a map list: its kind, a missing key field, its members
abbrev pub keyed_item : List (List ℕ) → (Members → Read Content) → Data → Read (List ℕ × Content)
keyed_item names inner d = and_then (object_item d) (λ ms. if have_keys names ms then and_then (inner ms) (named_item (list_item_text (object (keys_in names ms)))) else Err (KeyFieldMissing, []))

-- a key field stands in the item's element alone
abbrev pub beside_keys : List (List ℕ) → (List ℕ → Data → Read Content) → List ℕ → Data → Read Content
beside_keys names inner k d = if list_any (bytes_eq k) names then below [] (λ c. nothing) (inner k d) else inner k d

abbrev mutual
  pub content_of : Shape → Data → Read Content
  content_of text d = below [] (λ s. here (leaf_value.text s)) (text_in d)
  content_of whole d = below [] (λ n. here (leaf_value.whole n)) (whole_in d)
  content_of truth d = below [] (λ b. here (leaf_value.truth b)) (truth_in d)
  content_of (struct_of all is_atomic) d =
      if is_atomic then below [] leaf (plain_of (struct_of all is_atomic) d) else and_then (some_or NotAnObject (as_object d)) (members_at (λ k e. content_of_field all k e))
  content_of (map_of s is_atomic) d =
      if is_atomic then below [] leaf (plain_of (map_of s is_atomic) d) else and_then (some_or NotAnObject (as_object d)) (members_at (λ k e. content_of s e))
  content_of (list_of s atomic) d = below [] leaf (plain_of (list_of s atomic) d)
  content_of (list_of s set) d = and_then (some_or WrongType (as_array d)) (items_at (set_item (plain_of s)) 0 [])
  content_of (list_of s (keyed names)) d = and_then (some_or WrongType (as_array d)) (items_at (keyed_item names (λ ms. content_of_item s names ms)) 0 [])

  pub content_of_item : Shape → List (List ℕ) → Members → Read Content
  content_of_item (struct_of all is_atomic) names ms = members_at (beside_keys names (λ k e. content_of_field all k e)) ms
  content_of_item _ names ms = Err (WrongType, [])

  pub content_of_field : Fields → List ℕ → Data → Read Content
  content_of_field no_fields k d = Err (UnknownField, [])
  content_of_field (field known s more) k d = if bytes_eq known k then content_of s d else content_of_field more k d
