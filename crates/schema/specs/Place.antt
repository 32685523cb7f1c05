-- The place that a shape gives a path, if any.
-- Server-Side Apply, "Merge strategy": scalars and atomic values are leaves; sets and map lists have items; structs, granular maps and lists have no place of their own.
use Rattle.std.specs.Prelude.{ℕ, Bool, true, false, ◌&&◌, List, [], ◌∷◌, Option, Some, None, if◌then◌else◌, option_and_then}
use Rattle.std.specs.declared.result.Result.{Result}
use Rattle.std.specs.declared.result.Result.TheVariants.{Ok}
use Rattle.std.specs.List.{list_any}
use Rattle.std.specs.Str.{bytes_eq}
use Rattle.fieldpath.specs.Paths.{PathTexts}
use Rattle.fieldpath.specs.Elements.{Scalar, KeyFields, Element, NoElement, field_name, read_element}
use Rattle.fieldpath.specs.Elements as element
use Rattle.schema.specs.Shape.{atomic, set, keyed, Shape, text, whole, truth, struct_of, map_of, list_of, Fields, no_fields, field, shape_at}
use Rattle.schema.specs.declared.place.Place.{Place}
use Rattle.schema.specs.declared.place.Place.TheVariants.{Leaf, SetItem, MapItem}

abbrev pub at_end : PathTexts → Place → Option Place
at_end [] place = Some place
at_end (e ∷ p) place = None

-- whether a scalar is of the type due
abbrev pub fits : Shape → Scalar → Bool
fits text (element.text s) = true
fits whole (element.whole n) = true
fits truth (element.truth b) = true
fits _ _ = false

abbrev pub fits_some : Option Shape → Scalar → Bool
fits_some None v = false
fits_some (Some s) v = fits s v

-- whether the key fields are just those named, each of its field's type
abbrev pub fit_keys : List (List ℕ) → Fields → KeyFields → Bool
fit_keys [] all [] = true
fit_keys [] all (k ∷ ks) = false
fit_keys (n ∷ ns) all [] = false
fit_keys (n ∷ ns) all (k ∷ ks) = bytes_eq n k.0 && fits_some (shape_at n all) k.1 && fit_keys ns all ks

abbrev pub set_item : Result Element NoElement → Option Scalar
set_item (Ok (element.value v)) = Some v
set_item _ = None

abbrev pub list_item : Result Element NoElement → Option KeyFields
list_item (Ok (element.key ks)) = Some ks
list_item _ = None

-- a path that begins with a field's element
abbrev pub by_field : (List ℕ → PathTexts → Option Place) → PathTexts → Option Place
by_field inner [] = None
by_field inner (e ∷ p) = option_and_then (λ f. inner f p) (field_name e)

abbrev pub by_set_item : (Scalar → PathTexts → Option Place) → PathTexts → Option Place
by_set_item inner [] = None
by_set_item inner (e ∷ p) = option_and_then (λ v. inner v p) (set_item (read_element e))

abbrev pub by_list_item : (KeyFields → PathTexts → Option Place) → PathTexts → Option Place
by_list_item inner [] = None
by_list_item inner (e ∷ p) = option_and_then (λ ks. inner ks p) (list_item (read_element e))

abbrev pub item_or : PathTexts → Option Place → Option Place
item_or [] below = Some MapItem
item_or (e ∷ p) below = below

abbrev mutual
  pub place_of : Shape → PathTexts → Option Place
  place_of text p = at_end p Leaf
  place_of whole p = at_end p Leaf
  place_of truth p = at_end p Leaf
  place_of (struct_of all is_atomic) p = if is_atomic then at_end p Leaf else by_field (λ f q. place_in_field all f q) p
  place_of (map_of s is_atomic) p = if is_atomic then at_end p Leaf else by_field (λ f q. place_of s q) p
  place_of (list_of s atomic) p = at_end p Leaf
  place_of (list_of s set) p = by_set_item (λ v q. if fits s v then at_end q SetItem else None) p
  place_of (list_of s (keyed names)) p = place_in_list names s p

  -- an item has places for its fields, but for the key fields
  pub place_in_list : List (List ℕ) → Shape → PathTexts → Option Place
  place_in_list names (struct_of all is_atomic) p =
      by_list_item (λ ks q. if fit_keys names all ks then item_or q (by_field (λ f r. if list_any (bytes_eq f) names then None else place_in_field all f r) q) else None) p
  place_in_list names _ p = None

  pub place_in_field : Fields → List ℕ → PathTexts → Option Place
  place_in_field no_fields f p = None
  place_in_field (field known s more) f p = if bytes_eq known f then place_of s p else place_in_field more f p
