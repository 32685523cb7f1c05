-- The one value that a content is printed as, if anything stands in it: items in byte order of their elements' texts, key fields put back.
use Rattle.std.specs.Prelude.{ℕ, List, [], ◌∷◌, Option, Some, None, option_map, option_and_then, if◌then◌else◌}
use Rattle.std.specs.FinMap as fin
use Rattle.serde_json.specs.Data.{Data, boolean, number, string, array, object, Items, no_items, item, Members, no_members, member, put}
use Rattle.serde_json.specs.Find.{as_object, of_integer}
use Rattle.serde_json.specs.Read.{read}
use Rattle.fieldpath.specs.Elements.{field_name, keys_json, name_text, scalar_json}
use Rattle.pathmap.specs.Contents.{LeafValue, Content}
use Rattle.pathmap.specs.Contents as leaf_value
use Rattle.pathmap.specs.Insides.{inside, heads}
use Rattle.schema.specs.Shape.{atomic, set, keyed, Shape, text, whole, truth, struct_of, map_of, list_of, Fields, no_fields, field}

abbrev pub value_of : LeafValue → Option Data
value_of (leaf_value.text s) = Some (string s)
value_of (leaf_value.whole n) = Some (number (of_integer n))
value_of (leaf_value.truth b) = Some (boolean b)
value_of (leaf_value.plain s) = read s
value_of leaf_value.mark = None

-- the value at the top
abbrev pub value_at : Content → Option Data
value_at c = option_and_then value_of (fin.get c [])

abbrev pub object_or_none : Members → Option Data
object_or_none no_members = None
object_or_none (member k d ms) = Some (object (member k d ms))

abbrev pub array_or_none : Items → Option Data
array_or_none no_items = None
array_or_none (item d ds) = Some (array (item d ds))

-- these members and one more, if there is a value
abbrev pub with_member : List ℕ → Option Data → Members → Members
with_member k None ms = ms
with_member k (Some d) ms = put k d ms

abbrev pub with_item : Option Data → Items → Items
with_item None ds = ds
with_item (Some d) ds = item d ds

-- a member by the element of its name
abbrev pub with_named : Option (List ℕ) → Option Data → Members → Members
with_named None d ms = ms
with_named (Some k) d ms = with_member k d ms

-- these members and one for each element
abbrev pub each_member : (List ℕ → Option Data) → List (List ℕ) → Members → Members
each_member inner [] ms = ms
each_member inner (e ∷ es) ms = each_member inner es (with_named (field_name e) (inner e) ms)

abbrev pub each_item : (List ℕ → Option Data) → List (List ℕ) → Items
each_item inner [] = no_items
each_item inner (e ∷ es) = with_item (inner e) (each_item inner es)

-- the scalar in a set item's element
abbrev pub scalar_in : List ℕ → Option Data
scalar_in e = option_and_then read (scalar_json e)

-- the key fields in a map list item's element
abbrev pub keys_in : List ℕ → Option Members
keys_in e = option_and_then as_object (option_and_then read (keys_json e))

-- nothing is printed where nothing stands
abbrev mutual
  pub print : Shape → Content → Option Data
  print text c = value_at c
  print whole c = value_at c
  print truth c = value_at c
  print (struct_of all is_atomic) c = if is_atomic then value_at c else object_or_none (print_fields all c no_members)
  print (map_of s is_atomic) c = if is_atomic then value_at c else object_or_none (each_member (λ e. print s (inside e c)) (heads c) no_members)
  print (list_of s atomic) c = value_at c
  print (list_of s set) c = array_or_none (each_item scalar_in (heads c))
  print (list_of s (keyed names)) c = array_or_none (each_item (λ e. option_map (λ ms. object (print_item s (inside e c) ms)) (keys_in e)) (heads c))

  -- an item: its key fields, and its fields beside them
  pub print_item : Shape → Content → Members → Members
  print_item (struct_of all is_atomic) c ms = print_fields all c ms
  print_item _ c ms = ms

  -- these members and one for each field
  pub print_fields : Fields → Content → Members → Members
  print_fields no_fields c ms = ms
  print_fields (field f s more) c ms = print_fields more c (with_member f (print s (inside (name_text f) c)) ms)
