-- What is written at a spot, level by level, under a lawful schema.
use Rattle.std.proofs.Common.{◌≡◌, ℕ, Bool, true, false, cond, not, ◌&&◌, ◌||◌, List, [], ◌∷◌, Option, Some, None, is_some, option_map, Result, Ok, Err, refl, sym, ap, ap₂, ◌∙◌, true≢false, subst}
use Rattle.std.specs.Prelude.{option_and_then}
use Rattle.std.specs.FinMap as fin
use Rattle.std.specs.List.{AllByRecursion, list_any, list_all}
use Rattle.std.specs.Str.{bytes_eq}
use Rattle.std.proofs.lemmas.Slice.Eq.{bytes_eq-Decides}
use Rattle.serde_json.specs.Data.{object, Members, no_members, member}
use Rattle.fieldpath.specs.Paths.{PathTexts}
use Rattle.fieldpath.specs.Elements.{Element, KeyFields, NoElement, read_element, field_name}
use Rattle.fieldpath.specs.Elements as element
use Rattle.fieldpath.specs.Scalars.{ascend}
use Rattle.pathmap.specs.Contents.{Content}
use Rattle.pathmap.specs.Insides.{heads, inside}
use Rattle.pathmap.specs.Levels.{has_path}
use Rattle.pathmap.proofs.Heads.{heads-inside, some_path}
use Rattle.pathmap.proofs.Insides.{get-inside}
use Rattle.schema.specs.Lawful.{are_well_formed, has_keys, is_some_name, is_some_scalar, is_well_formed, item_is_lawful, names_of}
use Rattle.schema.specs.Place.{fits, fit_keys}
use Rattle.schema.specs.Shape.{atomic, set, keyed, Shape, text, whole, truth, struct_of, map_of, list_of, Fields, no_fields, field, shape_at}
use Rattle.schema.specs.Steps.{TypeRef, value_of, set_item, map_item, is_leaf, step, step_item}
use Rattle.schema.proofs.Steps.{name_in, name-of}
use Rattle.fieldset.specs.FieldsV1.{each, members_of, members_of_field, with_item}
use Rattle.fieldset.specs.Below.{members_some, members_under}
use Rattle.schema.proofs.Places.{item_next_none, leaf_next, next, place-next, place_at, place_next, step_read}
use Rattle.fieldset.proofs.Walks.{field-some, members-each, members-leaf}

pub none_some : {A : Type 0} (a : A) → None ≡ Some a → ⊥
none_some a h = true≢false (sym (ap is_some h))

pub second_of : (a b : Bool) → (a && b) ≡ true → b ≡ true
second_of true b h = h
second_of false b h = absurd (true≢false (sym h))

pub first_of : (a b : Bool) → (a && b) ≡ true → a ≡ true
first_of true b h = refl
first_of false b h = absurd (true≢false (sym h))

-- ---- lawful spots

abbrev pub IsGood : TypeRef → Type 0
IsGood (value_of s) = is_well_formed s ≡ true
IsGood set_item = Unit {0}
IsGood (map_item names all) = are_well_formed all ≡ true

abbrev pub GoodSome : Option TypeRef → Type 0
GoodSome None = Unit {0}
GoodSome (Some p) = IsGood p

good_if : (b : Bool) (o : Option TypeRef) → GoodSome o → GoodSome (cond b None o)
good_if true o h = tt
good_if false o h = h

good_when : (b : Bool) (p : TypeRef) → IsGood p → GoodSome (cond b (Some p) None)
good_when true p h = h
good_when false p h = tt

good_field : (all : Fields) → are_well_formed all ≡ true → (f : List ℕ) → GoodSome (option_map value_of (shape_at f all))
good_field no_fields h f = tt
good_field (field known s more) h f = by_name (bytes_eq known f) (good_field more (second_of (is_well_formed s) (are_well_formed more) h) f)
  where
    by_name : (b : Bool) → GoodSome (option_map value_of (shape_at f more)) → GoodSome (option_map value_of (cond b (Some s) (shape_at f more)))
    by_name true later = first_of (is_well_formed s) (are_well_formed more) h
    by_name false later = later

good_item : (names : List (List ℕ)) (s : Shape) → is_well_formed s ≡ true → (ks : KeyFields) → GoodSome (step_item names s ks)
good_item names (struct_of all a) h ks = good_when (fit_keys names all ks) (map_item names all) (second_of (ascend (names_of all)) (are_well_formed all) h)
good_item names text h ks = tt
good_item names whole h ks = tt
good_item names truth h ks = tt
good_item names (map_of s a) h ks = tt
good_item names (list_of s kind) h ks = tt

good_step : (type_ref : TypeRef) → IsGood type_ref → (e : Element) → GoodSome (step type_ref e)
good_step (value_of text) h (element.field f) = tt
good_step (value_of text) h (element.key ks) = tt
good_step (value_of text) h (element.value v) = tt
good_step (value_of whole) h (element.field f) = tt
good_step (value_of whole) h (element.key ks) = tt
good_step (value_of whole) h (element.value v) = tt
good_step (value_of truth) h (element.field f) = tt
good_step (value_of truth) h (element.key ks) = tt
good_step (value_of truth) h (element.value v) = tt
good_step (value_of (struct_of all a)) h (element.field f) = good_if a (option_map value_of (shape_at f all)) (good_field all (second_of (ascend (names_of all)) (are_well_formed all) h) f)
good_step (value_of (struct_of all a)) h (element.key ks) = tt
good_step (value_of (struct_of all a)) h (element.value v) = tt
good_step (value_of (map_of s a)) h (element.field f) = good_if a (Some (value_of s)) h
good_step (value_of (map_of s a)) h (element.key ks) = tt
good_step (value_of (map_of s a)) h (element.value v) = tt
good_step (value_of (list_of s kind)) h (element.field f) = tt
good_step (value_of (list_of s atomic)) h (element.key ks) = tt
good_step (value_of (list_of s set)) h (element.key ks) = tt
good_step (value_of (list_of s (keyed names))) h (element.key ks) = good_item names s (second_of (item_is_lawful (keyed names) s) (is_well_formed s) h) ks
good_step (value_of (list_of s atomic)) h (element.value v) = tt
good_step (value_of (list_of s set)) h (element.value v) = good_when (fits s v) set_item tt
good_step (value_of (list_of s (keyed names))) h (element.value v) = tt
good_step set_item h e = tt
good_step (map_item names all) h (element.field f) = good_if (list_any (bytes_eq f) names) (option_map value_of (shape_at f all)) (good_field all h f)
good_step (map_item names all) h (element.key ks) = tt
good_step (map_item names all) h (element.value v) = tt

pub good_next : (type_ref : TypeRef) → IsGood type_ref → (k : List ℕ) (p : TypeRef) → next type_ref k ≡ Some p → IsGood p
good_next type_ref good k p is = subst GoodSome is (by_read (read_element k))
  where
    by_read : (r : Result Element NoElement) → GoodSome (step_read type_ref r)
    by_read (Ok e) = good_step type_ref good e
    by_read (Err n) = tt

-- ---- the members at a spot

abbrev pub base_at : TypeRef → Content → Members
base_at (value_of s) c = members_of s c
base_at set_item c = no_members
base_at (map_item names all) c = members_of (struct_of all false) c

abbrev pub dressed : TypeRef → Bool → Members → Members
dressed (value_of s) is_there ms = ms
dressed set_item is_there ms = ms
dressed (map_item names all) is_there ms = with_item is_there names ms

abbrev pub members_at : TypeRef → Content → Members
members_at type_ref c = dressed type_ref (is_some (fin.get c [])) (base_at type_ref c)

abbrev pub inner_at : Option TypeRef → Content → Members
inner_at None c = no_members
inner_at (Some p) c = members_at p c

-- the name in a field's text
named : (e f : List ℕ) → read_element e ≡ Ok (element.field f) → field_name e ≡ Some f
named e f is = name-of e ∙ ap name_in is

module _ (c : Content) (p : TypeRef) where
  of_some : (o : Option Shape) → option_map value_of o ≡ Some p → members_some o c ≡ members_at p c
  of_some None h = absurd (none_some p h)
  of_some (Some s) h = ap (λ o. inner_at o c) h

  module _ (e : List ℕ) where
    of_struct : (all : Fields) (r : Result Element NoElement) → read_element e ≡ r → step_read (value_of (struct_of all false)) r ≡ Some p → members_some (option_and_then (λ f. shape_at f all) (field_name e)) c ≡ members_at p c
    of_struct all (Err n) is h = absurd (none_some p h)
    of_struct all (Ok (element.field f)) is h = ap (λ o. members_some (option_and_then (λ g. shape_at g all) o) c) (named e f is) ∙ of_some (shape_at f all) h
    of_struct all (Ok (element.key ks)) is h = absurd (none_some p h)
    of_struct all (Ok (element.value v)) is h = absurd (none_some p h)

    of_map : (s : Shape) (r : Result Element NoElement) → step_read (value_of (map_of s false)) r ≡ Some p → members_of s c ≡ members_at p c
    of_map s (Err n) h = absurd (none_some p h)
    of_map s (Ok (element.field f)) h = ap (λ o. inner_at o c) h
    of_map s (Ok (element.key ks)) h = absurd (none_some p h)
    of_map s (Ok (element.value v)) h = absurd (none_some p h)

    of_set : (s : Shape) (r : Result Element NoElement) → step_read (value_of (list_of s set)) r ≡ Some p → no_members ≡ members_at p c
    of_set s (Err n) h = absurd (none_some p h)
    of_set s (Ok (element.field f)) h = absurd (none_some p h)
    of_set s (Ok (element.key ks)) h = absurd (none_some p h)
    of_set s (Ok (element.value v)) h = by_fit (fits s v) h
      where
        by_fit : (b : Bool) → cond b (Some set_item) None ≡ Some p → no_members ≡ members_at p c
        by_fit true h = ap (λ o. inner_at o c) h
        by_fit false h = absurd (none_some p h)

    not_atomic : (a : Bool) → not a ≡ true → a ≡ false
    not_atomic true h = absurd (true≢false (sym h))
    not_atomic false h = refl

    granular : (names : List (List ℕ)) (all : Fields) (a : Bool) → is_well_formed (list_of (struct_of all a) (keyed names)) ≡ true → a ≡ false
    granular names all a h =
        not_atomic a
        (first_of (not a) (list_all (λ n. is_some_scalar (shape_at n all)) names) (second_of (is_some_name names && ascend names) (has_keys names (struct_of all a)) (first_of (item_is_lawful (keyed names) (struct_of all a)) (is_well_formed (struct_of all a)) h)))

    of_list : (names : List (List ℕ)) (s : Shape) → is_well_formed (list_of s (keyed names)) ≡ true → (r : Result Element NoElement) → step_read (value_of (list_of s (keyed names))) r ≡ Some p
        → with_item (is_some (fin.get c [])) names (members_of s c) ≡ members_at p c
    of_list names s good (Err n) h = absurd (none_some p h)
    of_list names s good (Ok (element.field f)) h = absurd (none_some p h)
    of_list names s good (Ok (element.value v)) h = absurd (none_some p h)
    of_list names text good (Ok (element.key ks)) h = absurd (none_some p h)
    of_list names whole good (Ok (element.key ks)) h = absurd (none_some p h)
    of_list names truth good (Ok (element.key ks)) h = absurd (none_some p h)
    of_list names (map_of s a) good (Ok (element.key ks)) h = absurd (none_some p h)
    of_list names (list_of s kind) good (Ok (element.key ks)) h = absurd (none_some p h)
    of_list names (struct_of all a) good (Ok (element.key ks)) h = ap (λ b. with_item (is_some (fin.get c [])) names (members_of (struct_of all b) c)) (granular names all a good) ∙ by_fit (fit_keys names all ks) h
      where
        by_fit : (b : Bool) → cond b (Some (map_item names all)) None ≡ Some p → with_item (is_some (fin.get c [])) names (members_of (struct_of all false) c) ≡ members_at p c
        by_fit true h = ap (λ o. inner_at o c) h
        by_fit false h = absurd (none_some p h)

    no_way : (s : Shape) → is_leaf s ≡ true → next (value_of s) e ≡ Some p → ⊥
    no_way s leaf h = none_some p (sym (leaf_next s leaf e) ∙ h)

    of_value : (s : Shape) → is_well_formed s ≡ true → next (value_of s) e ≡ Some p → members_under s e c ≡ members_at p c
    of_value text good h = absurd (no_way text refl h)
    of_value whole good h = absurd (no_way whole refl h)
    of_value truth good h = absurd (no_way truth refl h)
    of_value (struct_of all true) good h = absurd (no_way (struct_of all true) refl h)
    of_value (struct_of all false) good h = of_struct all (read_element e) refl h
    of_value (map_of s true) good h = absurd (no_way (map_of s true) refl h)
    of_value (map_of s false) good h = of_map s (read_element e) h
    of_value (list_of s atomic) good h = absurd (no_way (list_of s atomic) refl h)
    of_value (list_of s set) good h = of_set s (read_element e) h
    of_value (list_of s (keyed names)) good h = of_list names s good (read_element e) h

    of_item : (names : List (List ℕ)) (all : Fields) (r : Result Element NoElement) → read_element e ≡ r → step_read (map_item names all) r ≡ Some p → members_some (option_and_then (λ f. shape_at f all) (field_name e)) c ≡ members_at p c
    of_item names all (Err n) is h = absurd (none_some p h)
    of_item names all (Ok (element.key ks)) is h = absurd (none_some p h)
    of_item names all (Ok (element.value v)) is h = absurd (none_some p h)
    of_item names all (Ok (element.field f)) is h = ap (λ o. members_some (option_and_then (λ g. shape_at g all) o) c) (named e f is) ∙ by_key (list_any (bytes_eq f) names) h
      where
        by_key : (b : Bool) → cond b None (option_map value_of (shape_at f all)) ≡ Some p → members_some (shape_at f all) c ≡ members_at p c
        by_key true h = absurd (none_some p h)
        by_key false h = of_some (shape_at f all) h

-- ---- first elements

all_heads : (P : List ℕ → Type 0) (hs : List (List ℕ)) → ((g : List ℕ) → list_any (bytes_eq g) hs ≡ true → P g) → AllByRecursion P hs
all_heads P [] h = tt
all_heads P (x ∷ hs) h = (
  h x (ap (λ b. b || list_any (bytes_eq x) hs) ((bytes_eq-Decides x x).1 refl)),
  all_heads P hs (λ g is. h g (ap (λ b. bytes_eq g x || b) is ∙ or_true (bytes_eq g x))),
)
  where
    or_true : (b : Bool) → (b || true) ≡ true
    or_true true = refl
    or_true false = refl

abbrev pub IsWellTypedAt : TypeRef → Content → Type 0
IsWellTypedAt type_ref c = (p : PathTexts) → is_some (fin.get c p) ≡ true → is_some (place_at type_ref p) ≡ true

-- where a first element leads, and what stands there
abbrev pub Reaches : TypeRef → Content → List ℕ → Type 0
Reaches type_ref c e = (p : TypeRef) × (next type_ref e ≡ Some p) × (has_path (inside e c) ≡ true) × IsWellTypedAt p (inside e c)

reaches : (type_ref : TypeRef) (c : Content) → IsWellTypedAt type_ref c → (e : List ℕ) → list_any (bytes_eq e) (heads c) ≡ true → Reaches type_ref c e
reaches type_ref c well_typed e h = by_next (next type_ref e) refl
  where
    has : has_path (inside e c) ≡ true
    has = sym (heads-inside c e) ∙ h

    there : (q : PathTexts) → is_some (fin.get (inside e c) q) ≡ true → is_some (place_next (next type_ref e) q) ≡ true
    there q is = ap is_some (sym (place-next q type_ref e)) ∙ well_typed (e ∷ q) (ap is_some (sym (get-inside e c q)) ∙ is)

    by_next : (o : Option TypeRef) → next type_ref e ≡ o → Reaches type_ref c e
    by_next None is = let q = some_path (inside e c) has in absurd (true≢false (sym (there q.0 q.1) ∙ ap (λ o. is_some (place_next o q.0)) is))
    by_next (Some p) is = (p, is, has, λ q there_is. ap (λ o. is_some (place_next o q)) (sym is) ∙ there q there_is)

pub all_lead : (type_ref : TypeRef) (c : Content) → IsWellTypedAt type_ref c → AllByRecursion (Reaches type_ref c) (heads c)
all_lead type_ref c well_typed = all_heads (Reaches type_ref c) (heads c) (reaches type_ref c well_typed)

-- the members inside the first elements
abbrev pub inner_of : TypeRef → Content → List ℕ → Members
inner_of type_ref c e = inner_at (next type_ref e) (inside e c)

each_on : (f g : List ℕ → Members) (hs : List (List ℕ)) → AllByRecursion (λ e. f e ≡ g e) hs → each f hs ≡ each g hs
each_on f g [] h = refl
each_on f g (e ∷ hs) h = ap₂ (λ m ms. member e (object m) ms) h.0 (each_on f g hs h.1)

module _ (type_ref : TypeRef) (c : Content) where
  same_inside : (f : List ℕ → Members) → ((e : List ℕ) (p : TypeRef) → next type_ref e ≡ Some p → f e ≡ members_at p (inside e c)) → (hs : List (List ℕ)) → AllByRecursion (Reaches type_ref c) hs
      → AllByRecursion (λ e. f e ≡ inner_of type_ref c e) hs
  same_inside f alike [] h = tt
  same_inside f alike (e ∷ hs) h = (alike e h.0.0 h.0.1 ∙ sym (ap (λ o. inner_at o (inside e c)) h.0.1), same_inside f alike hs h.1)

  none_lead : ((e : List ℕ) → next type_ref e ≡ None) → (hs : List (List ℕ)) → AllByRecursion (Reaches type_ref c) hs → no_members ≡ each (inner_of type_ref c) hs
  none_lead none [] h = refl
  none_lead none (e ∷ hs) h = absurd (none_some h.0.0 (sym (none e) ∙ h.0.1))

pub base-each : (type_ref : TypeRef) → IsGood type_ref → (c : Content) → AllByRecursion (Reaches type_ref c) (heads c) → base_at type_ref c ≡ each (inner_of type_ref c) (heads c)
base-each (value_of s) good c lead = by_leaf (is_leaf s) refl
  where
    by_leaf : (b : Bool) → is_leaf s ≡ b → members_of s c ≡ each (inner_of (value_of s) c) (heads c)
    by_leaf true h = members-leaf s c h ∙ none_lead (value_of s) c (leaf_next s h) (heads c) lead
    by_leaf false h =
        members-each s c h ∙ each_on (λ e. members_under s e (inside e c)) (inner_of (value_of s) c) (heads c) (same_inside (value_of s) c (λ e. members_under s e (inside e c)) (λ e p is. of_value (inside e c) p e s good is) (heads c) lead)
base-each set_item good c lead = none_lead set_item c item_next_none (heads c) lead
base-each (map_item names all) good c lead =
    each_on (λ e. members_of_field all (field_name e) (inside e c)) (inner_of (map_item names all) c) (heads c)
    (same_inside (map_item names all) c (λ e. members_of_field all (field_name e) (inside e c)) (λ e p is. field-some all (field_name e) (inside e c) ∙ of_item (inside e c) p e names all (read_element e) refl is) (heads c) lead)
