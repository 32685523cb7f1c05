-- The content level by level, seen path by path.
use Rattle.std.proofs.Common.{◌≡◌, ℕ, Bool, true, false, cond, List, [], ◌∷◌, ◌++◌, drop, Option, Some, None, is_some, option_map, Result, Ok, Err, inl, inr, ◌⊎◌, refl, sym, ap, ap₂, ◌∙◌, true≢false, subst}
use Rattle.std.specs.FinMap as fin
use Rattle.std.specs.List.{list_any}
use Rattle.std.specs.Str.{bytes_eq}
use Rattle.std.proofs.lemmas.Bool.{and_parts}
use Rattle.std.proofs.lemmas.Slice.Eq.{bytes_eq-Decides}
use Rattle.serde_json.specs.Data.{Data, no_members, object}
use Rattle.serde_json.specs.Written.{compact_text}
use Rattle.fieldpath.specs.Elements.{Element, KeyFields, NoElement, Scalar, has_prefix, name_text, field_name, read_element}
use Rattle.fieldpath.specs.Elements as element
use Rattle.fieldpath.specs.Paths.{PathTexts}
use Rattle.fieldpath.specs.Scalars.{ascend}
use Rattle.pathmap.specs.Contents.{LeafValue, Content, nothing, here, over}
use Rattle.pathmap.specs.Contents as leaf_value
use Rattle.pathmap.specs.Insides.{inside, heads}
use Rattle.pathmap.proofs.Contents.{either, get-nothing, get-over}
use Rattle.pathmap.proofs.Levels.{get-here-top}
use Rattle.pathmap.proofs.Heads.{inside-nothing}
use Rattle.pathmap.proofs.Insides.{get-inside}
use Rattle.schema.specs.Lawful.{names_of, item_is_lawful, is_scalar, is_well_formed, are_well_formed, is_lawful}
use Rattle.schema.specs.Place.{fits, fit_keys, place_of}
use Rattle.schema.specs.Shape.{atomic, set, keyed, Shape, text, whole, truth, struct_of, map_of, list_of, Fields, no_fields, field, shape_at}
use Rattle.schema.specs.Steps.{TypeRef, value_of, set_item, map_item, is_leaf}
use Rattle.schema.specs.declared.place.Place.{Place}
use Rattle.schema.specs.declared.place.Place.TheVariants.{Leaf, SetItem, MapItem}
use Rattle.schema.proofs.Steps.{name_in, name-of}
use Rattle.schema.proofs.Places.{leaf_next, next, place-here, place-next, place_at, place_next, step_read, item_next_none}
use Rattle.schema.specs.Becoming.{becomes, fields_become}
use Rattle.typed.specs.Carried.{IsCarried, IsNewLeaf, LeavesStand, printed_from, printed_here}
use Rattle.typed.specs.Carried as carrying
use Rattle.typed.specs.WellTyped.{IsItem, IsWellTyped, AreWellTyped, ReadsBack}
use Rattle.typed.specs.Printing.{each_item, each_member, print, print_item, scalar_in}
use Rattle.typed.specs.Printing as printing
use Rattle.typed.specs.Reading.{leaf}
use Rattle.typed.proofs.Places.{places}
use Rattle.typed.proofs.Prints.{print-nothing}
use Rattle.typed.proofs.RoundTrip.{prefix_name, round}
use Rattle.typed.proofs.Carries.{fields_at, inside-marked, item_top, keyed_to, lawful_carries}
use Rattle.typed.proofs.Carrying.{array_leaf, by_both, carried_parts, carried_parts-nothing, in_field, in_field-at, in_item, inside-all, inside-bare, inside-there, leaf_of, object_leaf, top-each, under_each}
use Rattle.typed.proofs.SameShapes.{Both, both_at, keys_fit_same, never, same_shape, scalar_same}

-- ---- names

abbrev shape_or : Shape → Option Shape → Shape
shape_or s None = s
shape_or s (Some t) = t

abbrev name_or : List ℕ → Option (List ℕ) → List ℕ
name_or f None = f
name_or f (Some g) = g

named_by : (e f : List ℕ) → field_name e ≡ Some f → e ≡ name_text f
named_by e f is = by_prefix (has_prefix 102 e) refl
  where
    by_prefix : (b : Bool) → has_prefix 102 e ≡ b → e ≡ name_text f
    by_prefix true t = let named = prefix_name e t in named.2 ∙ ap name_text (ap (name_or f) (sym named.1 ∙ is))
    by_prefix false t = absurd (true≢false (sym (ap is_some is) ∙ ap (λ b. is_some (cond b (Some (drop 2 e)) None)) t))

field_well_typed : (fs : Fields) (c : Content) (f : List ℕ) (s : Shape) → AreWellTyped fs c → shape_at f fs ≡ Some s → IsWellTyped s (inside (name_text f) c)
field_well_typed no_fields c f s well_typed at = absurd (true≢false (sym (ap is_some at)))
field_well_typed (field known t more) c f s well_typed at = by_test (bytes_eq known f) refl at (field_well_typed more c f s well_typed.1)
  where
    by_test : (b : Bool) → bytes_eq known f ≡ b → cond b (Some t) (shape_at f more) ≡ Some s → (shape_at f more ≡ Some s → IsWellTyped s (inside (name_text f) c)) → IsWellTyped s (inside (name_text f) c)
    by_test true is at later = subst (λ n. IsWellTyped s (inside (name_text n) c)) ((bytes_eq-Decides known f).0 is) (subst (λ u. IsWellTyped u (inside (name_text known) c)) (ap (shape_or t) at) well_typed.0)
    by_test false is at later = later at

-- ---- what stands at two spots

-- no path but those with a place
abbrev Within : TypeRef → Content → Type 0
Within type_ref c = (p : PathTexts) → is_some (fin.get c p) ≡ true → is_some (place_at type_ref p) ≡ true

outside : (type_ref : TypeRef) (c : Content) (p : PathTexts) → Within type_ref c → place_at type_ref p ≡ None → fin.get c p ≡ None
outside type_ref c p within none = by_get (fin.get c p) refl
  where
    by_get : (o : Option LeafValue) → fin.get c p ≡ o → o ≡ None
    by_get None is = refl
    by_get (Some v) is = absurd (true≢false (sym (within p (ap is_some is)) ∙ ap is_some none))

within_next : (type_ref inner : TypeRef) (c : Content) (e : List ℕ) → next type_ref e ≡ Some inner → Within type_ref c → Within inner (inside e c)
within_next type_ref inner c e is within p there = ap is_some (sym (place-next p type_ref e ∙ ap (λ o. place_next o p) is)) ∙ within (e ∷ p) (ap is_some (sym (get-inside e c p)) ∙ there)

abbrev Rel : TypeRef → TypeRef → Content → Content → Type 0
Rel (value_of s) (value_of t) c r = (is_well_formed s ≡ true) × (is_well_formed t ≡ true) × (becomes true s t ≡ true) × IsWellTyped s c × (r ≡ carried_parts s t c)
Rel (value_of s) set_item c r = ⊥
Rel (value_of s) (map_item names all) c r = ⊥
Rel set_item (value_of t) c r = ⊥
Rel set_item set_item c r = r ≡ c
Rel set_item (map_item names all) c r = ⊥
Rel (map_item names all) (value_of t) c r = ⊥
Rel (map_item names all) set_item c r = ⊥
Rel (map_item names all) (map_item names_then others) c r =
    (names ≡ names_then) × (are_well_formed all ≡ true) × (are_well_formed others ≡ true) × (fields_become true all others ≡ true) × AreWellTyped all c × (fin.get r [] ≡ fin.get c [])
    × ((e : List ℕ) → inside e r ≡ in_field all others (field_name e) (inside e c))

-- an atomic value stands where a container was
abbrev IsNew : TypeRef → TypeRef → Type 0
IsNew a b = (place_at a [] ≡ None) × (place_at b [] ≡ Some Leaf)

-- what an element leads to
data Step (a b : TypeRef) (c r : Content) (e : List ℕ) : Type 0 where
  below_new : IsNew a b → next b e ≡ None → Step a b c r e
  nowhere : next a e ≡ None → next b e ≡ None → Step a b c r e
  bare : inside e c ≡ nothing → inside e r ≡ nothing → Step a b c r e
  down : (x y : TypeRef) → next a e ≡ Some x → next b e ≡ Some y → Rel x y (inside e c) (inside e r) → Step a b c r e

-- ---- a field

module _ (all others : Fields) (c r : Content) (olds : are_well_formed all ≡ true) (news : are_well_formed others ≡ true) (to : fields_become true all others ≡ true) (well_typed : AreWellTyped all c)
    (at : (e : List ℕ) → inside e r ≡ in_field all others (field_name e) (inside e c)) where
  field_step : (a b : TypeRef) (e f : List ℕ) → field_name e ≡ Some f → (o p : Option Shape) → shape_at f all ≡ o → shape_at f others ≡ p → Both o p → next a e ≡ option_map value_of o → next b e ≡ option_map value_of p → Step a b c r e
  field_step a b e f named None None old new both left right = nowhere left right
  field_step a b e f named None (Some t) old new both left right = absurd both
  field_step a b e f named (Some s) None old new both left right = absurd both
  field_step a b e f named (Some s) (Some t) old new both left right =
      down (value_of s) (value_of t) left right (
        both.1,
        both.2,
        both.0,
        subst (λ g. IsWellTyped s (inside g c)) (sym (named_by e f named)) (field_well_typed all c f s well_typed old),
        at e ∙ ap (λ o. in_field all others o (inside e c)) named ∙ in_field-at all others to f (inside e c) ∙ ap₂ (λ o p. by_both o p (inside e c)) old new,
      )

  both_fields : (f : List ℕ) → Both (shape_at f all) (shape_at f others)
  both_fields = both_at all others olds news to

-- ---- an element of a value

read_name : (e f : List ℕ) → read_element e ≡ Ok (element.field f) → field_name e ≡ Some f
read_name e f is = name-of e ∙ ap name_in is

struct_step : (all others : Fields) (c r : Content) → are_well_formed all ≡ true → are_well_formed others ≡ true → fields_become true all others ≡ true → AreWellTyped all c
    → ((e : List ℕ) → inside e r ≡ in_field all others (field_name e) (inside e c)) → (e : List ℕ) → Step (value_of (struct_of all false)) (value_of (struct_of others false)) c r e
struct_step all others c r olds news to well_typed at e = by_read (read_element e) refl
  where
    by_read : (x : Result Element NoElement) → read_element e ≡ x → Step (value_of (struct_of all false)) (value_of (struct_of others false)) c r e
    by_read (Err n) is = nowhere (ap (step_read (value_of (struct_of all false))) is) (ap (step_read (value_of (struct_of others false))) is)
    by_read (Ok (element.key ks)) is = nowhere (ap (step_read (value_of (struct_of all false))) is) (ap (step_read (value_of (struct_of others false))) is)
    by_read (Ok (element.value v)) is = nowhere (ap (step_read (value_of (struct_of all false))) is) (ap (step_read (value_of (struct_of others false))) is)
    by_read (Ok (element.field f)) is =
        field_step all others c r olds news to well_typed at (value_of (struct_of all false)) (value_of (struct_of others false)) e f (read_name e f is) (shape_at f all) (shape_at f others) refl refl
        (both_fields all others c r olds news to well_typed at f) (ap (step_read (value_of (struct_of all false))) is) (ap (step_read (value_of (struct_of others false))) is)

item_step : (names : List (List ℕ)) (all others : Fields) (c r : Content) → are_well_formed all ≡ true → are_well_formed others ≡ true → fields_become true all others ≡ true → AreWellTyped all c
    → ((e : List ℕ) → inside e r ≡ in_field all others (field_name e) (inside e c)) → (e : List ℕ) → Step (map_item names all) (map_item names others) c r e
item_step names all others c r olds news to well_typed at e = by_read (read_element e) refl
  where
    by_key : (f : List ℕ) (b : Bool) → field_name e ≡ Some f → next (map_item names all) e ≡ cond b None (option_map value_of (shape_at f all)) → next (map_item names others) e ≡ cond b None (option_map value_of (shape_at f others))
        → Step (map_item names all) (map_item names others) c r e
    by_key f true named left right = nowhere left right
    by_key f false named left right =
        field_step all others c r olds news to well_typed at (map_item names all) (map_item names others) e f named (shape_at f all) (shape_at f others) refl refl (both_fields all others c r olds news to well_typed at f) left right

    by_read : (x : Result Element NoElement) → read_element e ≡ x → Step (map_item names all) (map_item names others) c r e
    by_read (Err n) is = nowhere (ap (step_read (map_item names all)) is) (ap (step_read (map_item names others)) is)
    by_read (Ok (element.key ks)) is = nowhere (ap (step_read (map_item names all)) is) (ap (step_read (map_item names others)) is)
    by_read (Ok (element.value v)) is = nowhere (ap (step_read (map_item names all)) is) (ap (step_read (map_item names others)) is)
    by_read (Ok (element.field f)) is = by_key f (list_any (bytes_eq f) names) (read_name e f is) (ap (step_read (map_item names all)) is) (ap (step_read (map_item names others)) is)

map_step : (s t : Shape) (c r : Content) → is_well_formed s ≡ true → is_well_formed t ≡ true → becomes true s t ≡ true → ((e : List ℕ) → IsWellTyped s (inside e c)) → ((e : List ℕ) → inside e r ≡ carried_parts s t (inside e c)) → (e : List ℕ)
    → Step (value_of (map_of s false)) (value_of (map_of t false)) c r e
map_step s t c r a b to well_typed at e = by_read (read_element e) refl
  where
    by_read : (x : Result Element NoElement) → read_element e ≡ x → Step (value_of (map_of s false)) (value_of (map_of t false)) c r e
    by_read (Err n) is = nowhere (ap (step_read (value_of (map_of s false))) is) (ap (step_read (value_of (map_of t false))) is)
    by_read (Ok (element.key ks)) is = nowhere (ap (step_read (value_of (map_of s false))) is) (ap (step_read (value_of (map_of t false))) is)
    by_read (Ok (element.value v)) is = nowhere (ap (step_read (value_of (map_of s false))) is) (ap (step_read (value_of (map_of t false))) is)
    by_read (Ok (element.field f)) is = down (value_of s) (value_of t) (ap (step_read (value_of (map_of s false))) is) (ap (step_read (value_of (map_of t false))) is) (a, b, to, well_typed e, at e)

set_step : (s : Shape) (c r : Content) → r ≡ c → (e : List ℕ) → Step (value_of (list_of s set)) (value_of (list_of s set)) c r e
set_step s c r same e = by_next (next (value_of (list_of s set)) e) refl
  where
    by_read : (x : Result Element NoElement) (o : TypeRef) → step_read (value_of (list_of s set)) x ≡ Some o → o ≡ set_item
    by_read (Err n) o is = absurd (true≢false (sym (ap is_some is)))
    by_read (Ok (element.field f)) o is = absurd (true≢false (sym (ap is_some is)))
    by_read (Ok (element.key ks)) o is = absurd (true≢false (sym (ap is_some is)))
    by_read (Ok (element.value v)) o is = by_fit (fits s v) is
      where
        by_fit : (b : Bool) → cond b (Some set_item) None ≡ Some o → o ≡ set_item
        by_fit true is = ap (λ p. type_ref_or p) (sym is)
          where
            type_ref_or : Option TypeRef → TypeRef
            type_ref_or None = set_item
            type_ref_or (Some x) = x
        by_fit false is = absurd (true≢false (sym (ap is_some is)))

    by_next : (o : Option TypeRef) → next (value_of (list_of s set)) e ≡ o → Step (value_of (list_of s set)) (value_of (list_of s set)) c r e
    by_next None is = nowhere is is
    by_next (Some x) is = let item = is ∙ ap Some (by_read (read_element e) x is) in down set_item set_item item item (ap (inside e) same)

keyed_step : (names : List (List ℕ)) (all others : Fields) (was is : Bool) (c : Content) → are_well_formed all ≡ true → are_well_formed others ≡ true → fields_become true all others ≡ true
    → ((e : List ℕ) → (inside e c ≡ nothing) ⊎ IsItem names (struct_of all was) e (inside e c)) → (e : List ℕ)
    → Step (value_of (list_of (struct_of all was) (keyed names))) (value_of (list_of (struct_of others is) (keyed names))) c (under_each (λ g. in_item (struct_of all was) (struct_of others is) (inside g c)) (heads c)) e
keyed_step names all others was is c olds news to well_typed e = by_item (well_typed e)
  where
    r : Content
    r = under_each (λ g. in_item (struct_of all was) (struct_of others is) (inside g c)) (heads c)

    u : Content
    u = under_each (λ g. in_field all others (field_name g) (inside g (inside e c))) (heads (inside e c))

    rel : IsItem names (struct_of all was) e (inside e c) → Rel (map_item names all) (map_item names others) (inside e c) (inside e r)
    rel item =
        let there : inside e r ≡ over (here leaf_value.mark) u = inside-there (λ g. in_item (struct_of all was) (struct_of others is) (inside g c)) c e (item_top names (struct_of all was) e (inside e c) item) in (
          refl,
          olds,
          news,
          to,
          item.1,
          ap (λ x. fin.get x []) there ∙ get-over (here leaf_value.mark) u [] ∙ ap (λ x. either x (fin.get u [])) (get-here-top leaf_value.mark) ∙ sym item.0.3,
          (λ g. ap (inside g) there ∙ inside-marked g u ∙ fields_at all others (inside e c) g),
        )

    by_fit : (b : Bool) → next (value_of (list_of (struct_of all was) (keyed names))) e ≡ cond b (Some (map_item names all)) None → next (value_of (list_of (struct_of others is) (keyed names))) e ≡ cond b (Some (map_item names others)) None
        → IsItem names (struct_of all was) e (inside e c) → Step (value_of (list_of (struct_of all was) (keyed names))) (value_of (list_of (struct_of others is) (keyed names))) c r e
    by_fit true left right item = down (map_item names all) (map_item names others) left right (rel item)
    by_fit false left right item = nowhere left right

    by_read : (x : Result Element NoElement) → read_element e ≡ x → IsItem names (struct_of all was) e (inside e c) → Step (value_of (list_of (struct_of all was) (keyed names))) (value_of (list_of (struct_of others is) (keyed names))) c r e
    by_read (Err n) read_as item = nowhere (ap (step_read (value_of (list_of (struct_of all was) (keyed names)))) read_as) (ap (step_read (value_of (list_of (struct_of others is) (keyed names)))) read_as)
    by_read (Ok (element.field f)) read_as item = nowhere (ap (step_read (value_of (list_of (struct_of all was) (keyed names)))) read_as) (ap (step_read (value_of (list_of (struct_of others is) (keyed names)))) read_as)
    by_read (Ok (element.value v)) read_as item = nowhere (ap (step_read (value_of (list_of (struct_of all was) (keyed names)))) read_as) (ap (step_read (value_of (list_of (struct_of others is) (keyed names)))) read_as)
    by_read (Ok (element.key ks)) read_as item =
        by_fit (fit_keys names all ks) (ap (step_read (value_of (list_of (struct_of all was) (keyed names)))) read_as)
        (ap (step_read (value_of (list_of (struct_of others is) (keyed names)))) read_as ∙ ap (λ b. cond b (Some (map_item names others)) None) (sym (keys_fit_same all others (both_at all others olds news to) names ks))) item

    by_item : (inside e c ≡ nothing) ⊎ IsItem names (struct_of all was) e (inside e c) → Step (value_of (list_of (struct_of all was) (keyed names))) (value_of (list_of (struct_of others is) (keyed names))) c r e
    by_item (inl none) = bare none (inside-bare (λ g. in_item (struct_of all was) (struct_of others is) (inside g c)) c e none)
    by_item (inr item) = by_read (read_element e) refl item

keyed_bare : (names : List (List ℕ)) (s : Shape) → ((e : List ℕ) (c : Content) → IsItem names s e c → ⊥) → (t : Shape) (c : Content) → ((e : List ℕ) → (inside e c ≡ nothing) ⊎ IsItem names s e (inside e c)) → (e : List ℕ)
    → Step (value_of (list_of s (keyed names))) (value_of (list_of t (keyed names))) c (under_each (λ g. in_item s t (inside g c)) (heads c)) e
keyed_bare names s none t c well_typed e = by_item (well_typed e)
  where
    by_item : (inside e c ≡ nothing) ⊎ IsItem names s e (inside e c) → Step (value_of (list_of s (keyed names))) (value_of (list_of t (keyed names))) c (under_each (λ g. in_item s t (inside g c)) (heads c)) e
    by_item (inl is) = bare is (inside-bare (λ g. in_item s t (inside g c)) c e is)
    by_item (inr item) = absurd (none e (inside e c) item)

list_step : (names : List (List ℕ)) (s t : Shape) (c : Content) → is_well_formed s ≡ true → is_well_formed t ≡ true → becomes true s t ≡ true → ((e : List ℕ) → (inside e c ≡ nothing) ⊎ IsItem names s e (inside e c)) → (e : List ℕ)
    → Step (value_of (list_of s (keyed names))) (value_of (list_of t (keyed names))) c (under_each (λ g. in_item s t (inside g c)) (heads c)) e
list_step names text t c a b to well_typed e = keyed_bare names text (λ e c item. item) t c well_typed e
list_step names whole t c a b to well_typed e = keyed_bare names whole (λ e c item. item) t c well_typed e
list_step names truth t c a b to well_typed e = keyed_bare names truth (λ e c item. item) t c well_typed e
list_step names (map_of s was) t c a b to well_typed e = keyed_bare names (map_of s was) (λ e c item. item) t c well_typed e
list_step names (list_of s was) t c a b to well_typed e = keyed_bare names (list_of s was) (λ e c item. item) t c well_typed e
list_step names (struct_of all was) text c a b to well_typed e = never to
list_step names (struct_of all was) whole c a b to well_typed e = never to
list_step names (struct_of all was) truth c a b to well_typed e = never to
list_step names (struct_of all was) (map_of t is) c a b to well_typed e = never to
list_step names (struct_of all was) (list_of t is) c a b to well_typed e = never to
list_step names (struct_of all was) (struct_of others is) c a b to well_typed e =
    keyed_step names all others was is c (and_parts (ascend (names_of all)) (are_well_formed all) a).1 (and_parts (ascend (names_of others)) (are_well_formed others) b).1 (and_parts _ (fields_become true all others) to).1 well_typed e

-- ---- a value

keyed_top : (names : List (List ℕ)) (s : Shape) → place_of (list_of s (keyed names)) [] ≡ None
keyed_top names text = refl
keyed_top names whole = refl
keyed_top names truth = refl
keyed_top names (struct_of all was) = refl
keyed_top names (map_of s was) = refl
keyed_top names (list_of s was) = refl

leaf_step : (s t : Shape) (c r : Content) (e : List ℕ) → is_leaf s ≡ true → is_leaf t ≡ true → Step (value_of s) (value_of t) c r e
leaf_step s t c r e left right = nowhere (leaf_next s left e) (leaf_next t right e)

value_step : (s t : Shape) (c : Content) → is_well_formed s ≡ true → is_well_formed t ≡ true → becomes true s t ≡ true → IsWellTyped s c → (e : List ℕ) → Step (value_of s) (value_of t) c (carried_parts s t c) e
value_step text t c a b h well_typed e = subst (λ u. Step (value_of text) (value_of u) c c e) (same_shape text t a b h) (leaf_step text text c c e refl refl)
value_step whole t c a b h well_typed e = subst (λ u. Step (value_of whole) (value_of u) c c e) (same_shape whole t a b h) (leaf_step whole whole c c e refl refl)
value_step truth t c a b h well_typed e = subst (λ u. Step (value_of truth) (value_of u) c c e) (same_shape truth t a b h) (leaf_step truth truth c c e refl refl)
value_step (struct_of all was) text c a b h well_typed e = never h
value_step (struct_of all was) whole c a b h well_typed e = never h
value_step (struct_of all was) truth c a b h well_typed e = never h
value_step (struct_of all was) (map_of t is) c a b h well_typed e = never h
value_step (struct_of all was) (list_of t is) c a b h well_typed e = never h
value_step (struct_of all true) (struct_of others true) c a b h well_typed e = leaf_step (struct_of all true) (struct_of others true) c c e refl refl
value_step (struct_of all true) (struct_of others false) c a b h well_typed e = never h
value_step (struct_of all false) (struct_of others true) c a b h well_typed e = never h
value_step (struct_of all false) (struct_of others false) c a b h well_typed e =
    struct_step all others c (carried_parts (struct_of all false) (struct_of others false) c) (and_parts (ascend (names_of all)) (are_well_formed all) a).1 (and_parts (ascend (names_of others)) (are_well_formed others) b).1 h well_typed.1 (fields_at all others c) e
value_step (map_of s was) text c a b h well_typed e = never h
value_step (map_of s was) whole c a b h well_typed e = never h
value_step (map_of s was) truth c a b h well_typed e = never h
value_step (map_of s was) (struct_of others is) c a b h well_typed e = never h
value_step (map_of s was) (list_of t is) c a b h well_typed e = never h
value_step (map_of s true) (map_of t true) c a b h well_typed e = leaf_step (map_of s true) (map_of t true) c c e refl refl
value_step (map_of s true) (map_of t false) c a b h well_typed e = never h
value_step (map_of s false) (map_of t true) c a b h well_typed e = below_new (refl, refl) (leaf_next (map_of t true) refl e)
value_step (map_of s false) (map_of t false) c a b h well_typed e =
    map_step s t c (carried_parts (map_of s false) (map_of t false) c) a b h well_typed.1 (inside-all (λ g. carried_parts s t (inside g c)) c (λ g none. ap (carried_parts s t) none ∙ carried_parts-nothing s t)) e
value_step (list_of s was) text c a b h well_typed e = never h
value_step (list_of s was) whole c a b h well_typed e = never h
value_step (list_of s was) truth c a b h well_typed e = never h
value_step (list_of s was) (struct_of others is) c a b h well_typed e = never h
value_step (list_of s was) (map_of t is) c a b h well_typed e = never h
value_step (list_of s atomic) (list_of t atomic) c a b h well_typed e = leaf_step (list_of s atomic) (list_of t atomic) c c e refl refl
value_step (list_of s atomic) (list_of t set) c a b h well_typed e = never h
value_step (list_of s atomic) (list_of t (keyed others)) c a b h well_typed e = never h
value_step (list_of s set) (list_of t atomic) c a b h well_typed e = below_new (refl, refl) (leaf_next (list_of t atomic) refl e)
value_step (list_of s set) (list_of t set) c a b h well_typed e =
    let old = and_parts (is_scalar s) (is_well_formed s) a in
    let new = and_parts (is_scalar t) (is_well_formed t) b in
    subst (λ u. Step (value_of (list_of s set)) (value_of (list_of u set)) c c e) (scalar_same s t old.1 new.1 old.0 h) (set_step s c c refl e)
value_step (list_of s set) (list_of t (keyed others)) c a b h well_typed e = never h
value_step (list_of s (keyed names)) (list_of t atomic) c a b h well_typed e = below_new (keyed_top names s, refl) (leaf_next (list_of t atomic) refl e)
value_step (list_of s (keyed names)) (list_of t set) c a b h well_typed e = never h
value_step (list_of s (keyed names)) (list_of t (keyed others)) c a b h well_typed e =
    let to = keyed_to names others s t a b h in
    let old = and_parts (item_is_lawful (keyed names) s) (is_well_formed s) a in
    let new = and_parts (item_is_lawful (keyed others) t) (is_well_formed t) b in
    subst (λ ns. Step (value_of (list_of s (keyed names))) (value_of (list_of t (keyed ns))) c (under_each (λ g. in_item s t (inside g c)) (heads c)) e) to.0 (list_step names s t c old.1 new.1 to.1 well_typed.1 e)

one_step : (a b : TypeRef) (c r : Content) → Rel a b c r → (e : List ℕ) → Step a b c r e
one_step (value_of s) (value_of t) c r rel e = subst (λ x. Step (value_of s) (value_of t) c x e) (sym rel.4) (value_step s t c rel.0 rel.1 rel.2 rel.3 e)
one_step (value_of s) set_item c r rel e = absurd rel
one_step (value_of s) (map_item names all) c r rel e = absurd rel
one_step set_item (value_of t) c r rel e = absurd rel
one_step set_item set_item c r rel e = nowhere (item_next_none e) (item_next_none e)
one_step set_item (map_item names all) c r rel e = absurd rel
one_step (map_item names all) (value_of t) c r rel e = absurd rel
one_step (map_item names all) set_item c r rel e = absurd rel
one_step (map_item names all) (map_item names_then others) c r rel e =
    subst (λ ns. Step (map_item names all) (map_item ns others) c r e) rel.0 (item_step names all others c r rel.1 rel.2 rel.3 rel.4 rel.6 e)

-- ---- at a spot itself

value_here : (s t : Shape) (c : Content) → is_well_formed s ≡ true → is_well_formed t ≡ true → becomes true s t ≡ true → IsWellTyped s c → (IsNew (value_of s) (value_of t) → ⊥) → fin.get (carried_parts s t c) [] ≡ fin.get c []
value_here text t c a b h well_typed old = refl
value_here whole t c a b h well_typed old = refl
value_here truth t c a b h well_typed old = refl
value_here (struct_of all was) text c a b h well_typed old = never h
value_here (struct_of all was) whole c a b h well_typed old = never h
value_here (struct_of all was) truth c a b h well_typed old = never h
value_here (struct_of all was) (map_of t is) c a b h well_typed old = never h
value_here (struct_of all was) (list_of t is) c a b h well_typed old = never h
value_here (struct_of all true) (struct_of others is) c a b h well_typed old = refl
value_here (struct_of all false) (struct_of others is) c a b h well_typed old = top-each (λ e. in_field all others (field_name e) (inside e c)) (heads c) ∙ sym well_typed.0.0
value_here (map_of s was) text c a b h well_typed old = never h
value_here (map_of s was) whole c a b h well_typed old = never h
value_here (map_of s was) truth c a b h well_typed old = never h
value_here (map_of s was) (struct_of others is) c a b h well_typed old = never h
value_here (map_of s was) (list_of t is) c a b h well_typed old = never h
value_here (map_of s true) (map_of t is) c a b h well_typed old = refl
value_here (map_of s false) (map_of t true) c a b h well_typed old = absurd (old (refl, refl))
value_here (map_of s false) (map_of t false) c a b h well_typed old = top-each (λ e. carried_parts s t (inside e c)) (heads c) ∙ sym well_typed.0.0
value_here (list_of s was) text c a b h well_typed old = never h
value_here (list_of s was) whole c a b h well_typed old = never h
value_here (list_of s was) truth c a b h well_typed old = never h
value_here (list_of s was) (struct_of others is) c a b h well_typed old = never h
value_here (list_of s was) (map_of t is) c a b h well_typed old = never h
value_here (list_of s atomic) (list_of t is) c a b h well_typed old = refl
value_here (list_of s set) (list_of t atomic) c a b h well_typed old = absurd (old (refl, refl))
value_here (list_of s set) (list_of t set) c a b h well_typed old = refl
value_here (list_of s set) (list_of t (keyed others)) c a b h well_typed old = never h
value_here (list_of s (keyed names)) (list_of t atomic) c a b h well_typed old = absurd (old (keyed_top names s, refl))
value_here (list_of s (keyed names)) (list_of t set) c a b h well_typed old = never h
value_here (list_of s (keyed names)) (list_of t (keyed others)) c a b h well_typed old = top-each (λ e. in_item s t (inside e c)) (heads c) ∙ sym well_typed.0

at_top : (a b : TypeRef) (c r : Content) → Rel a b c r → (IsNew a b → ⊥) → fin.get r [] ≡ fin.get c []
at_top (value_of s) (value_of t) c r rel old = ap (λ x. fin.get x []) rel.4 ∙ value_here s t c rel.0 rel.1 rel.2 rel.3 old
at_top (value_of s) set_item c r rel old = absurd rel
at_top (value_of s) (map_item names all) c r rel old = absurd rel
at_top set_item (value_of t) c r rel old = absurd rel
at_top set_item set_item c r rel old = ap (λ x. fin.get x []) rel
at_top set_item (map_item names all) c r rel old = absurd rel
at_top (map_item names all) (value_of t) c r rel old = absurd rel
at_top (map_item names all) set_item c r rel old = absurd rel
at_top (map_item names all) (map_item names_then others) c r rel old = rel.5

-- a leaf's text
abbrev text_of : Data → LeafValue
text_of d = leaf_value.plain (compact_text d)

leaf_get : (o : Option Data) → ((d : Data) → o ≡ Some d → leaf d ≡ here (leaf_value.plain (compact_text d))) → fin.get (leaf_of o) [] ≡ option_map text_of o
leaf_get None full = get-nothing []
leaf_get (Some d) full = ap (λ x. fin.get x []) (full d refl) ∙ get-here-top (leaf_value.plain (compact_text d))

some_none : {A P : Type 0} (x : A) → Some x ≡ None → P
some_none x h = absurd (true≢false (ap is_some h))

value_new : (s t : Shape) (c : Content) → becomes true s t ≡ true → place_of s [] ≡ None → place_of t [] ≡ Some Leaf → fin.get (carried_parts s t c) [] ≡ option_map text_of (print s c)
value_new text t c h old new = some_none Leaf old
value_new whole t c h old new = some_none Leaf old
value_new truth t c h old new = some_none Leaf old
value_new (struct_of all was) text c h old new = never h
value_new (struct_of all was) whole c h old new = never h
value_new (struct_of all was) truth c h old new = never h
value_new (struct_of all was) (map_of t is) c h old new = never h
value_new (struct_of all was) (list_of t is) c h old new = never h
value_new (struct_of all true) (struct_of others is) c h old new = some_none Leaf old
value_new (struct_of all false) (struct_of others true) c h old new = never h
value_new (struct_of all false) (struct_of others false) c h old new = some_none Leaf (sym new)
value_new (map_of s was) text c h old new = never h
value_new (map_of s was) whole c h old new = never h
value_new (map_of s was) truth c h old new = never h
value_new (map_of s was) (struct_of others is) c h old new = never h
value_new (map_of s was) (list_of t is) c h old new = never h
value_new (map_of s true) (map_of t is) c h old new = some_none Leaf old
value_new (map_of s false) (map_of t true) c h old new = leaf_get (print (map_of s false) c) (object_leaf (each_member (λ e. print s (inside e c)) (heads c) no_members))
value_new (map_of s false) (map_of t false) c h old new = some_none Leaf (sym new)
value_new (list_of s was) text c h old new = never h
value_new (list_of s was) whole c h old new = never h
value_new (list_of s was) truth c h old new = never h
value_new (list_of s was) (struct_of others is) c h old new = never h
value_new (list_of s was) (map_of t is) c h old new = never h
value_new (list_of s atomic) (list_of t is) c h old new = some_none Leaf old
value_new (list_of s set) (list_of t atomic) c h old new = leaf_get (print (list_of s set) c) (array_leaf (each_item scalar_in (heads c)))
value_new (list_of s set) (list_of t set) c h old new = some_none Leaf (sym new)
value_new (list_of s set) (list_of t (keyed others)) c h old new = never h
value_new (list_of s (keyed names)) (list_of t atomic) c h old new =
    leaf_get (print (list_of s (keyed names)) c) (array_leaf (each_item (λ e. option_map (λ ms. object (print_item s (inside e c) ms)) (printing.keys_in e)) (heads c)))
value_new (list_of s (keyed names)) (list_of t set) c h old new = never h
value_new (list_of s (keyed names)) (list_of t (keyed others)) c h old new = some_none Leaf (sym new ∙ keyed_top others t)

new_top : (a b : TypeRef) (c r : Content) → Rel a b c r → place_at a [] ≡ None → place_at b [] ≡ Some Leaf → fin.get r [] ≡ option_map text_of (printed_here (Some a) c)
new_top (value_of s) (value_of t) c r rel old new = ap (λ x. fin.get x []) rel.4 ∙ value_new s t c rel.2 old new
new_top (value_of s) set_item c r rel old new = absurd rel
new_top (value_of s) (map_item names all) c r rel old new = absurd rel
new_top set_item (value_of t) c r rel old new = absurd rel
new_top set_item set_item c r rel old new = some_none SetItem old
new_top set_item (map_item names all) c r rel old new = absurd rel
new_top (map_item names all) (value_of t) c r rel old new = absurd rel
new_top (map_item names all) set_item c r rel old new = absurd rel
new_top (map_item names all) (map_item names_then others) c r rel old new = some_none MapItem old

-- ---- path by path

get_bare : (c : Content) (e : List ℕ) (q : PathTexts) → inside e c ≡ nothing → fin.get c (e ∷ q) ≡ None
get_bare c e q none = sym (get-inside e c q) ∙ ap (λ d. fin.get d q) none ∙ get-nothing q

place_down : (a : TypeRef) (e : List ℕ) (o : Option TypeRef) → next a e ≡ o → (q : PathTexts) → place_at a (e ∷ q) ≡ place_next o q
place_down a e o is q = place-next q a e ∙ ap (λ x. place_next x q) is

same_steps : (a : TypeRef) (x : Result Element NoElement) → carrying.step_read a x ≡ step_read a x
same_steps a (Ok e) = refl
same_steps a (Err n) = refl

printed-nothing : (p : PathTexts) (o : Option TypeRef) → printed_from o p nothing ≡ None
printed-nothing [] None = refl
printed-nothing [] (Some (value_of s)) = print-nothing s
printed-nothing [] (Some set_item) = refl
printed-nothing [] (Some (map_item names all)) = refl
printed-nothing (e ∷ p) None = refl
printed-nothing (e ∷ p) (Some type_ref) = ap (printed_from (carrying.step_read type_ref (read_element e)) p) (inside-nothing e) ∙ printed-nothing p (carrying.step_read type_ref (read_element e))

new_leaves : (p : PathTexts) (a b : TypeRef) (c r : Content) → Rel a b c r → place_at a p ≡ None → place_at b p ≡ Some Leaf → fin.get r p ≡ option_map text_of (printed_from (Some a) p c)
new_leaves [] a b c r rel old new = new_top a b c r rel old new
new_leaves (e ∷ q) a b c r rel old new = by_step (one_step a b c r rel e) (λ x y inner. new_leaves q x y (inside e c) (inside e r) inner)
  where
    by_step : Step a b c r e → ((x y : TypeRef) → Rel x y (inside e c) (inside e r) → place_at x q ≡ None → place_at y q ≡ Some Leaf → fin.get (inside e r) q ≡ option_map text_of (printed_from (Some x) q (inside e c)))
        → fin.get r (e ∷ q) ≡ option_map text_of (printed_from (Some a) (e ∷ q) c)
    by_step (below_new is out) later = some_none Leaf (sym new ∙ place_down b e None out q)
    by_step (nowhere left right) later = some_none Leaf (sym new ∙ place_down b e None right q)
    by_step (bare none none_then) later =
        get_bare r e q none_then ∙ sym (ap (option_map text_of) (ap (printed_from (carrying.step_read a (read_element e)) q) none ∙ printed-nothing q (carrying.step_read a (read_element e))))
    by_step (down x y left right inner) later =
        sym (get-inside e r q) ∙ later x y inner (sym (place_down a e (Some x) left q) ∙ old) (sym (place_down b e (Some y) right q) ∙ new)
        ∙ ap (λ o. option_map text_of (printed_from o q (inside e c))) (sym (same_steps a (read_element e) ∙ left))

kept : (p : PathTexts) (a b : TypeRef) (c r : Content) → Rel a b c r → Within a c → Within b r → ((above rest : PathTexts) → place_at a above ≡ None → place_at b above ≡ Some Leaf → p ≡ above ++ rest → ⊥) → fin.get r p ≡ fin.get c p
kept [] a b c r rel olds news free = at_top a b c r rel (λ is. free [] [] is.0 is.1 refl)
kept (e ∷ q) a b c r rel olds news free = by_step (one_step a b c r rel e) (λ x y inner. kept q x y (inside e c) (inside e r) inner)
  where
    by_step : Step a b c r e
        → ((x y : TypeRef) → Rel x y (inside e c) (inside e r) → Within x (inside e c) → Within y (inside e r) → ((above rest : PathTexts) → place_at x above ≡ None → place_at y above ≡ Some Leaf → q ≡ above ++ rest → ⊥)
        → fin.get (inside e r) q ≡ fin.get (inside e c) q)
        → fin.get r (e ∷ q) ≡ fin.get c (e ∷ q)
    by_step (below_new is out) later = absurd (free [] (e ∷ q) is.0 is.1 refl)
    by_step (nowhere left right) later = outside b r (e ∷ q) news (place_down b e None right q) ∙ sym (outside a c (e ∷ q) olds (place_down a e None left q))
    by_step (bare none none_then) later = get_bare r e q none_then ∙ sym (get_bare c e q none)
    by_step (down x y left right inner) later =
        sym (get-inside e r q)
        ∙ later x y inner (within_next a x c e left olds) (within_next b y r e right news)
        (λ above rest old new is. free (e ∷ above) rest (place_down a e (Some x) left above ∙ old) (place_down b e (Some y) right above ∙ new) (ap (λ p. e ∷ p) is))
        ∙ get-inside e c q

-- ---- a new leaf is there if something stood at or below it

top_stands : (s t : Shape) (c : Content) → is_well_formed s ≡ true → becomes true s t ≡ true → IsWellTyped s c → place_of s [] ≡ None → place_of t [] ≡ Some Leaf → (c ≡ nothing → ⊥) → is_some (fin.get (carried_parts s t c) []) ≡ true
top_stands s t c a h well_typed old new there = ap is_some (value_new s t c h old new) ∙ by_print (print s c) refl
  where
    by_print : (o : Option Data) → print s c ≡ o → is_some (option_map text_of o) ≡ true
    by_print None is = absurd (there (subst (λ o. ReadsBack s o c) is (round s c a well_typed)))
    by_print (Some d) is = refl

leaf_stands : (a b : TypeRef) (c r : Content) → Rel a b c r → place_at a [] ≡ None → place_at b [] ≡ Some Leaf → (c ≡ nothing → ⊥) → is_some (fin.get r []) ≡ true
leaf_stands (value_of s) (value_of t) c r rel old new there = ap (λ x. is_some (fin.get x [])) rel.4 ∙ top_stands s t c rel.0 rel.2 rel.3 old new there
leaf_stands (value_of s) set_item c r rel old new there = absurd rel
leaf_stands (value_of s) (map_item names all) c r rel old new there = absurd rel
leaf_stands set_item (value_of t) c r rel old new there = absurd rel
leaf_stands set_item set_item c r rel old new there = some_none SetItem old
leaf_stands set_item (map_item names all) c r rel old new there = absurd rel
leaf_stands (map_item names all) (value_of t) c r rel old new there = absurd rel
leaf_stands (map_item names all) set_item c r rel old new there = absurd rel
leaf_stands (map_item names all) (map_item names_then others) c r rel old new there = some_none MapItem old

some_path : (c : Content) (q : PathTexts) → is_some (fin.get c q) ≡ true → c ≡ nothing → ⊥
some_path c q there none = true≢false (sym there ∙ ap (λ d. is_some (fin.get d q)) none ∙ ap is_some (get-nothing q))

leaves_stand : (p : PathTexts) (a b : TypeRef) (c r : Content) → Rel a b c r → place_at a p ≡ None → place_at b p ≡ Some Leaf → (q : PathTexts) → is_some (fin.get c (p ++ q)) ≡ true → is_some (fin.get r p) ≡ true
leaves_stand [] a b c r rel old new q there = leaf_stands a b c r rel old new (some_path c q there)
leaves_stand (e ∷ p) a b c r rel old new q there = by_step (one_step a b c r rel e) (λ x y inner. leaves_stand p x y (inside e c) (inside e r) inner)
  where
    below : is_some (fin.get (inside e c) (p ++ q)) ≡ true
    below = ap is_some (get-inside e c (p ++ q)) ∙ there

    by_step : Step a b c r e
        → ((x y : TypeRef) → Rel x y (inside e c) (inside e r) → place_at x p ≡ None → place_at y p ≡ Some Leaf → (q : PathTexts) → is_some (fin.get (inside e c) (p ++ q)) ≡ true → is_some (fin.get (inside e r) p) ≡ true)
        → is_some (fin.get r (e ∷ p)) ≡ true
    by_step (below_new is out) later = some_none Leaf (sym new ∙ place_down b e None out p)
    by_step (nowhere left right) later = some_none Leaf (sym new ∙ place_down b e None right p)
    by_step (bare none none_then) later = absurd (some_path (inside e c) (p ++ q) below none)
    by_step (down x y left right inner) later =
        ap is_some (sym (get-inside e r p)) ∙ later x y inner (sym (place_down a e (Some x) left p) ∙ old) (sym (place_down b e (Some y) right p) ∙ new) q below

-- ---- nothing has a place below a leaf

abbrev is_leaf_place : Option Place → Bool
is_leaf_place None = false
is_leaf_place (Some Leaf) = true
is_leaf_place (Some SetItem) = false
is_leaf_place (Some MapItem) = false

leaf_below : (p : PathTexts) (b : TypeRef) → place_at b p ≡ Some Leaf → (e : List ℕ) (q : PathTexts) → place_at b (p ++ e ∷ q) ≡ None
leaf_below [] (value_of s) h e q = place_down (value_of s) e None (leaf_next s (sym (place-here s) ∙ ap is_some h) e) q
leaf_below [] set_item h e q = refl
leaf_below [] (map_item names all) h e q = absurd (true≢false (sym (ap is_leaf_place h)))
leaf_below (g ∷ p) b h e q = by_next (next b g) refl (λ y. leaf_below p y)
  where
    by_next : (o : Option TypeRef) → next b g ≡ o → ((y : TypeRef) → place_at y p ≡ Some Leaf → (e : List ℕ) (q : PathTexts) → place_at y (p ++ e ∷ q) ≡ None) → place_at b (g ∷ (p ++ e ∷ q)) ≡ None
    by_next None is later = some_none Leaf (sym h ∙ place_down b g None is p)
    by_next (Some y) is later = place_down b g (Some y) is (p ++ e ∷ q) ∙ later y (sym (place_down b g (Some y) is p) ∙ h) e q

-- ---- the law

pub is_carried : (s t : Shape) → is_lawful s ≡ true → is_well_formed t ≡ true → becomes true s t ≡ true → (c : Content) → IsWellTyped s c → IsCarried s t c (carried_parts s t c)
is_carried s t a b h c well_typed =
    let formed = (and_parts (is_well_formed s) _ a).0 in
    let carry = lawful_carries s t a b h c well_typed in
    let r = carried_parts s t c in
    let rel : Rel (value_of s) (value_of t) c r = (formed, b, h, well_typed, refl) in record {
      leaves = λ p is. new_leaves p (value_of s) (value_of t) c r rel is.0 is.1;
      below = λ p e q is. outside (value_of t) r (p ++ e ∷ q) (places t r carry.0) (leaf_below p (value_of t) is.1 e q);
      kept = λ p free. kept p (value_of s) (value_of t) c r rel (places s c well_typed) (places t r carry.0) (λ above rest old new is. free above rest (old, new) is);
    }

pub still_there : (s t : Shape) → is_lawful s ≡ true → is_well_formed t ≡ true → becomes true s t ≡ true → (c : Content) → IsWellTyped s c → LeavesStand s t c (carried_parts s t c)
still_there s t a b h c well_typed p q is there =
    leaves_stand p (value_of s) (value_of t) c (carried_parts s t c) ((and_parts (is_well_formed s) _ a).0, b, h, well_typed, refl) is.0 is.1 q there
