-- The place of a path is the fold of its steps.
use Rattle.std.proofs.Common.{◌≡◌, ℕ, Bool, true, false, cond, List, [], ◌∷◌, map, drop, Option, Some, None, option_map, Result, Ok, Err, refl, sym, ap, ◌∙◌}
use Rattle.std.specs.Prelude.{option_and_then}
use Rattle.std.specs.List.{list_any}
use Rattle.std.specs.Str.{bytes_eq}
use Rattle.serde_json.specs.Data.{Data, null, boolean, number, string, array, object}
use Rattle.serde_json.specs.Read.{read}
use Rattle.fieldpath.specs.Paths.{PathTexts}
use Rattle.fieldpath.specs.Elements.{Scalar, KeyFields, Element, NoElement, has_prefix, if_canonical, keys_of, keys_of_members, read_element, read_json, scalar_of, some_keys, field_name}
use Rattle.fieldpath.specs.Elements as element
use Rattle.schema.specs.Shape.{atomic, set, keyed, Shape, text, whole, truth, struct_of, map_of, list_of, Fields, no_fields, field, shape_at}
use Rattle.schema.specs.Place.{at_end, by_field, fits, fit_keys, item_or, list_item, place_in_field, place_in_list, place_of}
use Rattle.schema.specs.Place as place
use Rattle.schema.specs.Steps.{value_of, set_item, map_item, is_leaf, place_from, step_beside, step_item, step_value}
use Rattle.schema.specs.declared.place.Place.{Place}
use Rattle.schema.specs.declared.place.Place.TheVariants.{Leaf, SetItem}

-- ---- the name in a field's text

abbrev pub name_some : Option Element → Option (List ℕ)
name_some (Some (element.field f)) = Some f
name_some _ = None

abbrev pub name_in : Result Element NoElement → Option (List ℕ)
name_in (Ok e) = name_some (Some e)
name_in (Err n) = None

chosen : (b : Bool) (e : Element) → name_some (Some e) ≡ None → name_in (cond b (Ok e) (Err element.not_canonical)) ≡ None
chosen true e h = h
chosen false e h = refl

canonical_none : (t : List ℕ) (o : Option Element) → name_some o ≡ None → name_in (if_canonical t o) ≡ None
canonical_none t None h = refl
canonical_none t (Some e) h = chosen (bytes_eq (element.element_text e) t) e h

keys_none : (o : Option KeyFields) → name_some (some_keys o) ≡ None
keys_none None = refl
keys_none (Some []) = refl
keys_none (Some (k ∷ ks)) = refl

key_none : (d : Data) → name_some (keys_of d) ≡ None
key_none null = refl
key_none (boolean b) = refl
key_none (number n) = refl
key_none (string s) = refl
key_none (array ds) = refl
key_none (object ms) = keys_none (keys_of_members ms)

value_none : (o : Option Scalar) → name_some (option_map element.value o) ≡ None
value_none None = refl
value_none (Some v) = refl

json_none : (t : List ℕ) (of : Data → Option Element) → ((d : Data) → name_some (of d) ≡ None) → (r : Option Data) → name_in (read_json t of r) ≡ None
json_none t of none None = refl
json_none t of none (Some d) = canonical_none t (of d) (none d)

pub name-of : (t : List ℕ) → field_name t ≡ name_in (read_element t)
unfolding read_element
name-of t = by_prefix (has_prefix 102 t) (has_prefix 107 t) (has_prefix 118 t) (read (drop 2 t))
  where
    by_prefix : (a b c : Bool) (r : Option Data)
        → cond a (Some (drop 2 t)) None ≡ name_in (cond a (Ok (element.field (drop 2 t))) (cond b (read_json t keys_of r) (cond c (read_json t (λ d. option_map element.value (scalar_of d)) r) (Err element.no_prefix))))
    by_prefix true b c r = refl
    by_prefix false true c r = sym (json_none t keys_of key_none r)
    by_prefix false false true r = sym (json_none t (λ d. option_map element.value (scalar_of d)) (λ d. value_none (scalar_of d)) r)
    by_prefix false false false r = refl

-- ---- elements and their texts

abbrev Spells : List Element → PathTexts → Type 0
Spells es ts = map Ok es ≡ map read_element ts

abbrev first_or : Result Element NoElement → List (Result Element NoElement) → Result Element NoElement
first_or r [] = r
first_or r (x ∷ xs) = x

abbrev rest_of : List (Result Element NoElement) → List (Result Element NoElement)
rest_of [] = []
rest_of (x ∷ xs) = xs

first : (e : Element) (es : List Element) (t : List ℕ) (ts : PathTexts) → Spells (e ∷ es) (t ∷ ts) → read_element t ≡ Ok e
first e es t ts h = sym (ap (first_or (Ok e)) h)

rest : (e : Element) (es : List Element) (t : List ℕ) (ts : PathTexts) → Spells (e ∷ es) (t ∷ ts) → Spells es ts
rest e es t ts h = ap rest_of h

-- ---- leaves

leaf_steps : (s : Shape) → ((e : Element) → step_value s e ≡ None) → is_leaf s ≡ true → (ts : PathTexts) (es : List Element) → Spells es ts → at_end ts Leaf ≡ place_from (Some (value_of s)) es
leaf_steps s none leaf [] [] h = sym (ap (λ b. cond b (Some Leaf) None) leaf)
leaf_steps s none leaf [] (e ∷ es) h = absurd cc
leaf_steps s none leaf (t ∷ ts) [] h = absurd cc
leaf_steps s none leaf (t ∷ ts) (e ∷ es) h = sym (ap (λ o. place_from o es) (none e))

text_none : (e : Element) → step_value text e ≡ None
text_none (element.field f) = refl
text_none (element.key ks) = refl
text_none (element.value v) = refl

whole_none : (e : Element) → step_value whole e ≡ None
whole_none (element.field f) = refl
whole_none (element.key ks) = refl
whole_none (element.value v) = refl

truth_none : (e : Element) → step_value truth e ≡ None
truth_none (element.field f) = refl
truth_none (element.key ks) = refl
truth_none (element.value v) = refl

struct_none : (all : Fields) (e : Element) → step_value (struct_of all true) e ≡ None
struct_none all (element.field f) = refl
struct_none all (element.key ks) = refl
struct_none all (element.value v) = refl

map_none : (s : Shape) (e : Element) → step_value (map_of s true) e ≡ None
map_none s (element.field f) = refl
map_none s (element.key ks) = refl
map_none s (element.value v) = refl

list_none : (s : Shape) (e : Element) → step_value (list_of s atomic) e ≡ None
list_none s (element.field f) = refl
list_none s (element.key ks) = refl
list_none s (element.value v) = refl

-- ---- fields

abbrev InFields : Fields → Type 0
InFields all = (f : List ℕ) (ts : PathTexts) (es : List Element) → Spells es ts → place_in_field all f ts ≡ place_from (option_map value_of (shape_at f all)) es

abbrev InShape : Shape → Type 0
InShape s = (ts : PathTexts) (es : List Element) → Spells es ts → place_of s ts ≡ place_from (Some (value_of s)) es

struct_steps : (all : Fields) → InFields all → InShape (struct_of all false)
struct_steps all inner [] [] h = refl
struct_steps all inner [] (e ∷ es) h = absurd cc
struct_steps all inner (t ∷ ts) [] h = absurd cc
struct_steps all inner (t ∷ ts) (e ∷ es) h =
    ap (option_and_then (λ f. place_in_field all f ts)) (name-of t ∙ ap name_in (first e es t ts h)) ∙ by_element e (λ f. inner f ts es (rest e es t ts h))
  where
    by_element : (e : Element) → ((f : List ℕ) → place_in_field all f ts ≡ place_from (option_map value_of (shape_at f all)) es)
        → option_and_then (λ f. place_in_field all f ts) (name_some (Some e)) ≡ place_from (step_value (struct_of all false) e) es
    by_element (element.field f) each = each f
    by_element (element.key ks) each = refl
    by_element (element.value v) each = refl

map_steps : (s : Shape) → InShape s → InShape (map_of s false)
map_steps s inner [] [] h = refl
map_steps s inner [] (e ∷ es) h = absurd cc
map_steps s inner (t ∷ ts) [] h = absurd cc
map_steps s inner (t ∷ ts) (e ∷ es) h =
    ap (option_and_then (λ f. place_of s ts)) (name-of t ∙ ap name_in (first e es t ts h)) ∙ by_element e (inner ts es (rest e es t ts h))
  where
    by_element : (e : Element) → place_of s ts ≡ place_from (Some (value_of s)) es → option_and_then (λ f. place_of s ts) (name_some (Some e)) ≡ place_from (step_value (map_of s false) e) es
    by_element (element.field f) same = same
    by_element (element.key ks) same = refl
    by_element (element.value v) same = refl

-- ---- items

set_end : (ts : PathTexts) (es : List Element) → Spells es ts → at_end ts SetItem ≡ place_from (Some set_item) es
set_end [] [] h = refl
set_end [] (e ∷ es) h = absurd cc
set_end (t ∷ ts) [] h = absurd cc
set_end (t ∷ ts) (e ∷ es) h = refl

set_steps : (s : Shape) → InShape (list_of s set)
set_steps s [] [] h = refl
set_steps s [] (e ∷ es) h = absurd cc
set_steps s (t ∷ ts) [] h = absurd cc
set_steps s (t ∷ ts) (e ∷ es) h =
    ap (λ r. option_and_then (λ v. cond (fits s v) (at_end ts SetItem) None) (place.set_item r)) (first e es t ts h) ∙ by_element e
  where
    by_fit : (b : Bool) → cond b (at_end ts SetItem) None ≡ place_from (cond b (Some set_item) None) es
    by_fit true = set_end ts es (rest e es t ts h)
    by_fit false = refl

    by_element : (e : Element) → option_and_then (λ v. cond (fits s v) (at_end ts SetItem) None) (place.set_item (Ok e)) ≡ place_from (step_value (list_of s set) e) es
    by_element (element.field f) = refl
    by_element (element.key ks) = refl
    by_element (element.value v) = by_fit (fits s v)

abbrev beside : List (List ℕ) → Fields → List ℕ → PathTexts → Option Place
beside names all f q = cond (list_any (bytes_eq f) names) None (place_in_field all f q)

item_end : (names : List (List ℕ)) (all : Fields) → InFields all → (ts : PathTexts) (es : List Element) → Spells es ts → item_or ts (by_field (beside names all) ts) ≡ place_from (Some (map_item names all)) es
item_end names all inner [] [] h = refl
item_end names all inner [] (e ∷ es) h = absurd cc
item_end names all inner (t ∷ ts) [] h = absurd cc
item_end names all inner (t ∷ ts) (e ∷ es) h =
    ap (option_and_then (λ f. beside names all f ts)) (name-of t ∙ ap name_in (first e es t ts h)) ∙ by_element e (λ f. by_key f (list_any (bytes_eq f) names))
  where
    by_key : (f : List ℕ) (b : Bool) → cond b None (place_in_field all f ts) ≡ place_from (cond b None (option_map value_of (shape_at f all))) es
    by_key f true = refl
    by_key f false = inner f ts es (rest e es t ts h)

    by_element : (e : Element) → ((f : List ℕ) → beside names all f ts ≡ place_from (cond (list_any (bytes_eq f) names) None (option_map value_of (shape_at f all))) es)
        → option_and_then (λ f. beside names all f ts) (name_some (Some e)) ≡ place_from (step_beside names all e) es
    by_element (element.field f) each = each f
    by_element (element.key ks) each = refl
    by_element (element.value v) each = refl

list_steps : (names : List (List ℕ)) (all : Fields) (b : Bool) → InFields all → InShape (list_of (struct_of all b) (keyed names))
list_steps names all b inner [] [] h = refl
list_steps names all b inner [] (e ∷ es) h = absurd cc
list_steps names all b inner (t ∷ ts) [] h = absurd cc
list_steps names all b inner (t ∷ ts) (e ∷ es) h =
    ap (λ r. option_and_then (λ ks. cond (fit_keys names all ks) (item_or ts (by_field (beside names all) ts)) None) (list_item r)) (first e es t ts h) ∙ by_element e
  where
    by_fit : (c : Bool) → cond c (item_or ts (by_field (beside names all) ts)) None ≡ place_from (cond c (Some (map_item names all)) None) es
    by_fit true = item_end names all inner ts es (rest e es t ts h)
    by_fit false = refl

    by_element : (e : Element) → option_and_then (λ ks. cond (fit_keys names all ks) (item_or ts (by_field (beside names all) ts)) None) (list_item (Ok e)) ≡ place_from (step_value (list_of (struct_of all b) (keyed names)) e) es
    by_element (element.field f) = refl
    by_element (element.key ks) = by_fit (fit_keys names all ks)
    by_element (element.value v) = refl

-- items that are no structs have no place
other_steps : (names : List (List ℕ)) (s : Shape) → ((ks : KeyFields) → step_item names s ks ≡ None) → (ts : PathTexts) (es : List Element) → None ≡ place_from (Some (value_of (list_of s (keyed names)))) es
other_steps names s none ts [] = refl
other_steps names s none ts (e ∷ es) = by_element e
  where
    by_element : (e : Element) → None ≡ place_from (step_value (list_of s (keyed names)) e) es
    by_element (element.field f) = refl
    by_element (element.key ks) = sym (ap (λ o. place_from o es) (none ks))
    by_element (element.value v) = refl

chosen_field : (b : Bool) (here later : Option Place) (s : Shape) (o : Option Shape) (es : List Element) → here ≡ place_from (Some (value_of s)) es → later ≡ place_from (option_map value_of o) es
    → cond b here later ≡ place_from (option_map value_of (cond b (Some s) o)) es
chosen_field true here later s o es one more = one
chosen_field false here later s o es one more = more

mutual
  pub place-steps : (s : Shape) (ts : PathTexts) (es : List Element) → map Ok es ≡ map read_element ts → place_of s ts ≡ place_from (Some (value_of s)) es
  place-steps text ts es h = leaf_steps text text_none refl ts es h
  place-steps whole ts es h = leaf_steps whole whole_none refl ts es h
  place-steps truth ts es h = leaf_steps truth truth_none refl ts es h
  place-steps (struct_of all true) ts es h = leaf_steps (struct_of all true) (struct_none all) refl ts es h
  place-steps (struct_of all false) ts es h = struct_steps all (λ f q gs k. field_steps all f q gs k) ts es h
  place-steps (map_of s true) ts es h = leaf_steps (map_of s true) (map_none s) refl ts es h
  place-steps (map_of s false) ts es h = map_steps s (λ q gs k. place-steps s q gs k) ts es h
  place-steps (list_of s atomic) ts es h = leaf_steps (list_of s atomic) (list_none s) refl ts es h
  place-steps (list_of s set) ts es h = set_steps s ts es h
  place-steps (list_of s (keyed names)) ts es h = keyed_steps names s ts es h

  keyed_steps : (names : List (List ℕ)) (s : Shape) (ts : PathTexts) (es : List Element) → map Ok es ≡ map read_element ts → place_in_list names s ts ≡ place_from (Some (value_of (list_of s (keyed names)))) es
  keyed_steps names (struct_of all b) ts es h = list_steps names all b (λ f q gs k. field_steps all f q gs k) ts es h
  keyed_steps names text ts es h = other_steps names text (λ ks. refl) ts es
  keyed_steps names whole ts es h = other_steps names whole (λ ks. refl) ts es
  keyed_steps names truth ts es h = other_steps names truth (λ ks. refl) ts es
  keyed_steps names (map_of s b) ts es h = other_steps names (map_of s b) (λ ks. refl) ts es
  keyed_steps names (list_of s kind) ts es h = other_steps names (list_of s kind) (λ ks. refl) ts es

  field_steps : (all : Fields) (f : List ℕ) (ts : PathTexts) (es : List Element) → map Ok es ≡ map read_element ts → place_in_field all f ts ≡ place_from (option_map value_of (shape_at f all)) es
  field_steps no_fields f ts es h = refl
  field_steps (field known s more) f ts es h = chosen_field (bytes_eq known f) (place_of s ts) (place_in_field more f ts) s (shape_at f more) es (place-steps s ts es h) (field_steps more f ts es h)
