-- The place of a path, one element after another.
use Rattle.std.proofs.Common.{◌≡◌, ℕ, Bool, true, false, cond, List, [], ◌∷◌, Option, Some, None, is_some, option_map, Result, Ok, Err, refl, sym, ap, ◌∙◌, true≢false}
use Rattle.std.specs.Prelude.{option_and_then}
use Rattle.std.specs.List.{list_any}
use Rattle.std.specs.Str.{bytes_eq}
use Rattle.fieldpath.specs.Paths.{PathTexts}
use Rattle.fieldpath.specs.Elements.{Element, KeyFields, NoElement, read_element}
use Rattle.fieldpath.specs.Elements as element
use Rattle.schema.specs.Shape.{atomic, set, keyed, Shape, text, whole, truth, struct_of, map_of, list_of, Fields, no_fields, field, shape_at}
use Rattle.schema.specs.Place.{at_end, by_field, fits, fit_keys, item_or, list_item, place_in_field, place_in_list, place_of}
use Rattle.schema.specs.Place as place
use Rattle.schema.specs.Steps.{TypeRef, value_of, set_item, map_item, is_leaf, step, step_item, step_value}
use Rattle.schema.specs.declared.place.Place.{Place}
use Rattle.schema.specs.declared.place.Place.TheVariants.{SetItem}
use Rattle.schema.proofs.Steps.{name_in, name-of}

-- the fields of an item of a map list, but for its key fields
abbrev pub beside : List (List ℕ) → Fields → List ℕ → PathTexts → Option Place
beside names all f p = cond (list_any (bytes_eq f) names) None (place_in_field all f p)

-- the place of a path from a spot on
abbrev pub place_at : TypeRef → PathTexts → Option Place
place_at (value_of s) p = place_of s p
place_at set_item p = at_end p SetItem
place_at (map_item names all) p = item_or p (by_field (beside names all) p)

abbrev pub step_read : TypeRef → Result Element NoElement → Option TypeRef
step_read type_ref (Ok e) = step type_ref e
step_read type_ref (Err n) = None

-- where the element leads whose text this is
abbrev pub next : TypeRef → List ℕ → Option TypeRef
next type_ref k = step_read type_ref (read_element k)

abbrev pub place_next : Option TypeRef → PathTexts → Option Place
place_next None q = None
place_next (Some type_ref) q = place_at type_ref q

nowhere : (type_ref : TypeRef) → ((e : Element) → step type_ref e ≡ None) → (r : Result Element NoElement) (q : PathTexts) → None ≡ place_next (step_read type_ref r) q
nowhere type_ref none (Ok e) q = sym (ap (λ o. place_next o q) (none e))
nowhere type_ref none (Err n) q = refl

field_place : (all : Fields) (f : List ℕ) (q : PathTexts) → place_in_field all f q ≡ place_next (option_map value_of (shape_at f all)) q
field_place no_fields f q = refl
field_place (field known s more) f q = ap (cond (bytes_eq known f) (place_of s q)) (field_place more f q) ∙ by_name (bytes_eq known f)
  where
    by_name : (b : Bool) → cond b (place_of s q) (place_next (option_map value_of (shape_at f more)) q) ≡ place_next (option_map value_of (cond b (Some s) (shape_at f more))) q
    by_name true = refl
    by_name false = refl

-- ---- by form

module _ (q : PathTexts) where
  struct_next : (all : Fields) (r : Result Element NoElement) → option_and_then (λ f. place_in_field all f q) (name_in r) ≡ place_next (step_read (value_of (struct_of all false)) r) q
  struct_next all (Err n) = refl
  struct_next all (Ok (element.field f)) = field_place all f q
  struct_next all (Ok (element.key ks)) = refl
  struct_next all (Ok (element.value v)) = refl

  map_next : (s : Shape) (r : Result Element NoElement) → option_and_then (λ f. place_of s q) (name_in r) ≡ place_next (step_read (value_of (map_of s false)) r) q
  map_next s (Err n) = refl
  map_next s (Ok (element.field f)) = refl
  map_next s (Ok (element.key ks)) = refl
  map_next s (Ok (element.value v)) = refl

  set_next : (s : Shape) (r : Result Element NoElement) → option_and_then (λ v. cond (fits s v) (at_end q SetItem) None) (place.set_item r) ≡ place_next (step_read (value_of (list_of s set)) r) q
  set_next s (Err n) = refl
  set_next s (Ok (element.field f)) = refl
  set_next s (Ok (element.key ks)) = refl
  set_next s (Ok (element.value v)) = by_fit (fits s v)
    where
      by_fit : (b : Bool) → cond b (at_end q SetItem) None ≡ place_next (cond b (Some set_item) None) q
      by_fit true = refl
      by_fit false = refl

  item_next : (names : List (List ℕ)) (all : Fields) (a : Bool) (r : Result Element NoElement)
      → option_and_then (λ ks. cond (fit_keys names all ks) (item_or q (by_field (beside names all) q)) None) (list_item r) ≡ place_next (step_read (value_of (list_of (struct_of all a) (keyed names))) r) q
  item_next names all a (Err n) = refl
  item_next names all a (Ok (element.field f)) = refl
  item_next names all a (Ok (element.value v)) = refl
  item_next names all a (Ok (element.key ks)) = by_fit (fit_keys names all ks)
    where
      by_fit : (b : Bool) → cond b (item_or q (by_field (beside names all) q)) None ≡ place_next (cond b (Some (map_item names all)) None) q
      by_fit true = refl
      by_fit false = refl

  beside_next : (names : List (List ℕ)) (all : Fields) (r : Result Element NoElement) → option_and_then (λ f. beside names all f q) (name_in r) ≡ place_next (step_read (map_item names all) r) q
  beside_next names all (Err n) = refl
  beside_next names all (Ok (element.key ks)) = refl
  beside_next names all (Ok (element.value v)) = refl
  beside_next names all (Ok (element.field f)) = by_key (list_any (bytes_eq f) names)
    where
      by_key : (b : Bool) → cond b None (place_in_field all f q) ≡ place_next (cond b None (option_map value_of (shape_at f all))) q
      by_key true = refl
      by_key false = field_place all f q

  no_item : (names : List (List ℕ)) (s : Shape) → ((ks : KeyFields) → step_item names s ks ≡ None) → (e : Element) → step (value_of (list_of s (keyed names))) e ≡ None
  no_item names s none (element.field f) = refl
  no_item names s none (element.key ks) = none ks
  no_item names s none (element.value v) = refl

  list_next : (names : List (List ℕ)) (s : Shape) (k : List ℕ) → place_in_list names s (k ∷ q) ≡ place_next (next (value_of (list_of s (keyed names))) k) q
  list_next names (struct_of all a) k = item_next names all a (read_element k)
  list_next names text k = nowhere (value_of (list_of text (keyed names))) (no_item names text (λ ks. refl)) (read_element k) q
  list_next names whole k = nowhere (value_of (list_of whole (keyed names))) (no_item names whole (λ ks. refl)) (read_element k) q
  list_next names truth k = nowhere (value_of (list_of truth (keyed names))) (no_item names truth (λ ks. refl)) (read_element k) q
  list_next names (map_of s a) k = nowhere (value_of (list_of (map_of s a) (keyed names))) (no_item names (map_of s a) (λ ks. refl)) (read_element k) q
  list_next names (list_of s kind) k = nowhere (value_of (list_of (list_of s kind) (keyed names))) (no_item names (list_of s kind) (λ ks. refl)) (read_element k) q

  no_step : (s : Shape) → is_leaf s ≡ true → (e : Element) → step_value s e ≡ None
  no_step text h (element.field f) = refl
  no_step text h (element.key ks) = refl
  no_step text h (element.value v) = refl
  no_step whole h (element.field f) = refl
  no_step whole h (element.key ks) = refl
  no_step whole h (element.value v) = refl
  no_step truth h (element.field f) = refl
  no_step truth h (element.key ks) = refl
  no_step truth h (element.value v) = refl
  no_step (struct_of all a) h (element.field f) = ap (λ b. cond b None (option_map value_of (shape_at f all))) h
  no_step (struct_of all a) h (element.key ks) = refl
  no_step (struct_of all a) h (element.value v) = refl
  no_step (map_of s a) h (element.field f) = ap (λ b. cond b None (Some (value_of s))) h
  no_step (map_of s a) h (element.key ks) = refl
  no_step (map_of s a) h (element.value v) = refl
  no_step (list_of s atomic) h (element.field f) = refl
  no_step (list_of s atomic) h (element.key ks) = refl
  no_step (list_of s atomic) h (element.value v) = refl
  no_step (list_of s set) h e = absurd (true≢false (sym h))
  no_step (list_of s (keyed names)) h e = absurd (true≢false (sym h))

  item_step : (e : Element) → step set_item e ≡ None
  item_step e = refl

  pub place-next : (type_ref : TypeRef) (k : List ℕ) → place_at type_ref (k ∷ q) ≡ place_next (next type_ref k) q
  place-next (value_of text) k = nowhere (value_of text) (no_step text refl) (read_element k) q
  place-next (value_of whole) k = nowhere (value_of whole) (no_step whole refl) (read_element k) q
  place-next (value_of truth) k = nowhere (value_of truth) (no_step truth refl) (read_element k) q
  place-next (value_of (struct_of all true)) k = nowhere (value_of (struct_of all true)) (no_step (struct_of all true) refl) (read_element k) q
  place-next (value_of (struct_of all false)) k = ap (option_and_then (λ f. place_in_field all f q)) (name-of k) ∙ struct_next all (read_element k)
  place-next (value_of (map_of s true)) k = nowhere (value_of (map_of s true)) (no_step (map_of s true) refl) (read_element k) q
  place-next (value_of (map_of s false)) k = ap (option_and_then (λ f. place_of s q)) (name-of k) ∙ map_next s (read_element k)
  place-next (value_of (list_of s atomic)) k = nowhere (value_of (list_of s atomic)) (no_step (list_of s atomic) refl) (read_element k) q
  place-next (value_of (list_of s set)) k = set_next s (read_element k)
  place-next (value_of (list_of s (keyed names))) k = list_next names s k
  place-next set_item k = nowhere set_item item_step (read_element k) q
  place-next (map_item names all) k = ap (option_and_then (λ f. beside names all f q)) (name-of k) ∙ beside_next names all (read_element k)

-- no element leads on from a leaf
pub leaf_next : (s : Shape) → is_leaf s ≡ true → (k : List ℕ) → next (value_of s) k ≡ None
leaf_next s h k = by_read (read_element k)
  where
    by_read : (r : Result Element NoElement) → step_read (value_of s) r ≡ None
    by_read (Ok e) = no_step [] s h e
    by_read (Err n) = refl

pub item_next_none : (k : List ℕ) → next set_item k ≡ None
item_next_none k = by_read (read_element k)
  where
    by_read : (r : Result Element NoElement) → step_read set_item r ≡ None
    by_read (Ok e) = refl
    by_read (Err n) = refl

-- of the values of a schema, leaves alone have a place themselves
pub place-here : (s : Shape) → is_some (place_of s []) ≡ is_leaf s
place-here text = refl
place-here whole = refl
place-here truth = refl
place-here (struct_of all true) = refl
place-here (struct_of all false) = refl
place-here (map_of s true) = refl
place-here (map_of s false) = refl
place-here (list_of s atomic) = refl
place-here (list_of s set) = refl
place-here (list_of (struct_of all a) (keyed names)) = refl
place-here (list_of text (keyed names)) = refl
place-here (list_of whole (keyed names)) = refl
place-here (list_of truth (keyed names)) = refl
place-here (list_of (map_of s a) (keyed names)) = refl
place-here (list_of (list_of s kind) (keyed names)) = refl
