-- Whether a path with a place is a leaf or a set item is decided by its last element, so two shapes never differ in it.
use Rattle.std.proofs.Common.{◌≡◌, ℕ, Bool, true, false, cond, List, [], ◌∷◌, Option, Some, None, is_some, option_map, Result, Ok, Err, refl, sym, ap, ◌∙◌, true≢false}
use Rattle.std.specs.List.{list_any}
use Rattle.std.specs.Str.{bytes_eq}
use Rattle.fieldpath.specs.Elements.{Element, KeyFields, NoElement, read_element}
use Rattle.fieldpath.specs.Elements as element
use Rattle.fieldpath.specs.Paths.{PathTexts}
use Rattle.schema.specs.Place.{fits, fit_keys, place_of}
use Rattle.schema.specs.Shape.{atomic, set, keyed, Shape, text, whole, truth, struct_of, map_of, list_of, Fields, shape_at}
use Rattle.schema.specs.Steps.{TypeRef, value_of, set_item, map_item, step, step_item}
use Rattle.schema.proofs.Places.{next, place-next, place_at, place_next, step_read}
use Rattle.ownership.specs.Keeping.{is_end}

-- whether an element is that of a field or of a set item
abbrev is_no_key : Result Element NoElement → Bool
is_no_key (Ok (element.key ks)) = false
is_no_key _ = true

-- the same of a path's last element, if it has one
abbrev ends_by : Bool → PathTexts → Bool
ends_by b [] = b
ends_by b (e ∷ p) = ends_by (is_no_key (read_element e)) p

-- what has a place here is an end, or it isn't
abbrev IsHere : Bool → Option TypeRef → Type 0
IsHere b None = Unit {0}
IsHere b (Some type_ref) = is_some (place_at type_ref []) ≡ true → is_end (place_at type_ref []) ≡ b

keyed_here : (names : List (List ℕ)) (s : Shape) → IsHere true (Some (value_of (list_of s (keyed names))))
keyed_here names text h = absurd (true≢false (sym h))
keyed_here names whole h = absurd (true≢false (sym h))
keyed_here names truth h = absurd (true≢false (sym h))
keyed_here names (struct_of all is_atomic) h = absurd (true≢false (sym h))
keyed_here names (map_of s is_atomic) h = absurd (true≢false (sym h))
keyed_here names (list_of s kind) h = absurd (true≢false (sym h))

value_here : (s : Shape) → IsHere true (Some (value_of s))
value_here text h = refl
value_here whole h = refl
value_here truth h = refl
value_here (struct_of all true) h = refl
value_here (struct_of all false) h = absurd (true≢false (sym h))
value_here (map_of s true) h = refl
value_here (map_of s false) h = absurd (true≢false (sym h))
value_here (list_of s atomic) h = refl
value_here (list_of s set) h = absurd (true≢false (sym h))
value_here (list_of s (keyed names)) h = keyed_here names s h

-- ---- what an element leads to

field_here : (o : Option Shape) → IsHere true (option_map value_of o)
field_here None = tt
field_here (Some s) = value_here s

struct_here : (is_atomic : Bool) (o : Option Shape) → IsHere true (cond is_atomic None (option_map value_of o))
struct_here true o = tt
struct_here false o = field_here o

map_here : (is_atomic : Bool) (s : Shape) → IsHere true (cond is_atomic None (Some (value_of s)))
map_here true s = tt
map_here false s = value_here s

set_here : (b : Bool) → IsHere true (cond b (Some set_item) None)
set_here true = λ h. refl
set_here false = tt

item_here : (b : Bool) (names : List (List ℕ)) (all : Fields) → IsHere false (cond b (Some (map_item names all)) None)
item_here true names all = λ h. refl
item_here false names all = tt

item_step : (names : List (List ℕ)) (s : Shape) (ks : KeyFields) → IsHere false (step_item names s ks)
item_step names text ks = tt
item_step names whole ks = tt
item_step names truth ks = tt
item_step names (struct_of all is_atomic) ks = item_here (fit_keys names all ks) names all
item_step names (map_of s is_atomic) ks = tt
item_step names (list_of s kind) ks = tt

value_step : (s : Shape) (e : Element) → IsHere (is_no_key (Ok e)) (step (value_of s) e)
value_step text (element.field f) = tt
value_step text (element.key ks) = tt
value_step text (element.value v) = tt
value_step whole (element.field f) = tt
value_step whole (element.key ks) = tt
value_step whole (element.value v) = tt
value_step truth (element.field f) = tt
value_step truth (element.key ks) = tt
value_step truth (element.value v) = tt
value_step (struct_of all is_atomic) (element.field f) = struct_here is_atomic (shape_at f all)
value_step (struct_of all is_atomic) (element.key ks) = tt
value_step (struct_of all is_atomic) (element.value v) = tt
value_step (map_of s is_atomic) (element.field f) = map_here is_atomic s
value_step (map_of s is_atomic) (element.key ks) = tt
value_step (map_of s is_atomic) (element.value v) = tt
value_step (list_of s kind) (element.field f) = tt
value_step (list_of s atomic) (element.key ks) = tt
value_step (list_of s atomic) (element.value v) = tt
value_step (list_of s set) (element.key ks) = tt
value_step (list_of s set) (element.value v) = set_here (fits s v)
value_step (list_of s (keyed names)) (element.key ks) = item_step names s ks
value_step (list_of s (keyed names)) (element.value v) = tt

next_here : (type_ref : TypeRef) (r : Result Element NoElement) → IsHere (is_no_key r) (step_read type_ref r)
next_here type_ref (Err n) = tt
next_here (value_of s) (Ok e) = value_step s e
next_here set_item (Ok e) = tt
next_here (map_item names all) (Ok (element.field f)) = struct_here (list_any (bytes_eq f) names) (shape_at f all)
next_here (map_item names all) (Ok (element.key ks)) = tt
next_here (map_item names all) (Ok (element.value v)) = tt

-- ---- path by path

by_last_element : (p : PathTexts) (type_ref : TypeRef) (b : Bool) → IsHere b (Some type_ref) → is_some (place_at type_ref p) ≡ true → is_end (place_at type_ref p) ≡ ends_by b p
by_last_element [] type_ref b here there = here there
by_last_element (e ∷ p) type_ref b here there =
    ap is_end (place-next p type_ref e) ∙ by_next (next type_ref e) (next_here type_ref (read_element e)) (sym (ap is_some (place-next p type_ref e)) ∙ there) (λ x. by_last_element p x (is_no_key (read_element e)))
  where
    by_next : (o : Option TypeRef) → IsHere (is_no_key (read_element e)) o → is_some (place_next o p) ≡ true
        → ((x : TypeRef) → IsHere (is_no_key (read_element e)) (Some x) → is_some (place_at x p) ≡ true → is_end (place_at x p) ≡ ends_by (is_no_key (read_element e)) p)
        → is_end (place_next o p) ≡ ends_by (is_no_key (read_element e)) p
    by_next None here there later = absurd (true≢false (sym there))
    by_next (Some x) here there later = later x here there

pub one_end : (s t : Shape) (p : PathTexts) → is_some (place_of s p) ≡ true → is_some (place_of t p) ≡ true → is_end (place_of s p) ≡ is_end (place_of t p)
one_end s t p old new = by_last_element p (value_of s) true (value_here s) old ∙ sym (by_last_element p (value_of t) true (value_here t) new)
