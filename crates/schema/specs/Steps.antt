-- One step down a shape, and what ends there. The place of a path is the fold of its steps.
-- Server-Side Apply, "Merge strategy".
use Rattle.std.specs.Prelude.{ℕ, Bool, true, false, List, [], ◌∷◌, Option, Some, None, option_map, if◌then◌else◌}
use Rattle.std.specs.List.{list_any}
use Rattle.std.specs.Str.{bytes_eq}
use Rattle.fieldpath.specs.Elements.{Scalar, KeyFields, Element}
use Rattle.fieldpath.specs.Elements as element
use Rattle.schema.specs.Shape.{atomic, set, keyed, Shape, text, whole, truth, struct_of, map_of, list_of, Fields, shape_at}
use Rattle.schema.specs.Place.{fits, fit_keys}
use Rattle.schema.specs.declared.place.Place.{Place}
use Rattle.schema.specs.declared.place.Place.TheVariants.{Leaf, SetItem, MapItem}

-- where a prefix of a path leads: to a value of a shape, to an item of a set,
-- or to an item of a map list, which has these fields but for the key fields of these names
pub data TypeRef : Type 0 where
  value_of : Shape → TypeRef
  set_item : TypeRef
  map_item : List (List ℕ) → Fields → TypeRef

abbrev pub step_field : Shape → List ℕ → Option TypeRef
step_field (struct_of all is_atomic) f = if is_atomic then None else option_map value_of (shape_at f all)
step_field (map_of s is_atomic) f = if is_atomic then None else Some (value_of s)
step_field _ f = None

abbrev pub step_item : List (List ℕ) → Shape → KeyFields → Option TypeRef
step_item names (struct_of all is_atomic) ks = if fit_keys names all ks then Some (map_item names all) else None
step_item names _ ks = None

abbrev pub step_key : Shape → KeyFields → Option TypeRef
step_key (list_of s (keyed names)) ks = step_item names s ks
step_key _ ks = None

abbrev pub step_scalar : Shape → Scalar → Option TypeRef
step_scalar (list_of s set) v = if fits s v then Some set_item else None
step_scalar _ v = None

abbrev pub step_value : Shape → Element → Option TypeRef
step_value s (element.field f) = step_field s f
step_value s (element.key ks) = step_key s ks
step_value s (element.value v) = step_scalar s v

-- the key fields of an item stand in its element alone
abbrev pub step_beside : List (List ℕ) → Fields → Element → Option TypeRef
step_beside names all (element.field f) = if list_any (bytes_eq f) names then None else option_map value_of (shape_at f all)
step_beside names all (element.key ks) = None
step_beside names all (element.value v) = None

abbrev pub step : TypeRef → Element → Option TypeRef
step (value_of s) e = step_value s e
step set_item e = None
step (map_item names all) e = step_beside names all e

-- scalars and atomic values are leaves
abbrev pub is_leaf : Shape → Bool
is_leaf text = true
is_leaf whole = true
is_leaf truth = true
is_leaf (struct_of all is_atomic) = is_atomic
is_leaf (map_of s is_atomic) = is_atomic
is_leaf (list_of s atomic) = true
is_leaf (list_of s set) = false
is_leaf (list_of s (keyed names)) = false

-- the place of what ends here
abbrev pub place_here : TypeRef → Option Place
place_here (value_of s) = if is_leaf s then Some Leaf else None
place_here set_item = Some SetItem
place_here (map_item names all) = Some MapItem

-- the place at the end of these steps
abbrev pub place_from : Option TypeRef → List Element → Option Place
place_from None es = None
place_from (Some s) [] = place_here s
place_from (Some s) (e ∷ es) = place_from (step s e) es
