-- What is printed, one child or field after another.
use Rattle.std.proofs.Common.{◌≡◌, ℕ, ◌+◌, ◌<◌, get_or, Bool, true, false, cond, List, [], ◌∷◌, ◌++◌, length, drop, Option, Some, None, option_map, String, Global, string_bytes, refl, sym, ap, ◌∙◌, true≢false, subst}
use Rattle.std.specs.Prelude.{◌==◌, option_and_then, option_to_list}
use Rattle.serde_json.specs.Data.{Data, array, object, Items, no_items, item, Members, no_members}
use Rattle.serde_json.specs.View.{view, items_view, members_view}
use Rattle.serde_json.specs.declared.value.Value.{Value}
use Rattle.pathmap.specs.Contents.{Content, nothing}
use Rattle.pathmap.specs.Insides.{inside, heads}
use Rattle.pathmap.specs.Maps.{content, contents_in}
use Rattle.pathmap.specs.declared.pathmap.PathMap.{PathMap}
use Rattle.pathmap.proofs.Contents.{get-nothing}
use Rattle.schema.specs.Shape.{atomic, set, keyed, Shape, text, whole, truth, struct_of, map_of, list_of, Fields, no_fields, field, shape, fields_in}
use Rattle.schema.specs.declared.schema.Schema.{Schema}
use Rattle.std.proofs.lemmas.List.{drop_more}
use Rattle.fieldpath.specs.Elements.{field_name, name_text}
use Rattle.typed.specs.Printing.{value_at, value_of, object_or_none, array_or_none, with_member, with_named, with_item, each_member, each_item, scalar_in, keys_in, print, print_item, print_fields}
use Rattle.pathmap.proofs.Heads.{inside-nothing, heads-nothing}
use Rattle.typed.proofs.Insides.{AreInside, Children, child_names, children_of, heads-names}

value_at-nothing : value_at nothing ≡ None
value_at-nothing = ap (option_and_then value_of) (get-nothing [])

either_none : (b : Bool) (x y : Option Data) → x ≡ None → y ≡ None → cond b x y ≡ None
either_none true x y h k = h
either_none false x y h k = k

-- nothing is printed where nothing stands
mutual
  pub print-nothing : (s : Shape) → print s nothing ≡ None
  print-nothing text = value_at-nothing
  print-nothing whole = value_at-nothing
  print-nothing truth = value_at-nothing
  print-nothing (struct_of all is_atomic) = either_none is_atomic (value_at nothing) (object_or_none (print_fields all nothing no_members)) value_at-nothing (ap object_or_none (print_fields-nothing all no_members))
  print-nothing (map_of s is_atomic) =
      either_none is_atomic (value_at nothing) (object_or_none (each_member (λ e. print s (inside e nothing)) (heads nothing) no_members)) value_at-nothing
      (ap (λ hs. object_or_none (each_member (λ e. print s (inside e nothing)) hs no_members)) heads-nothing)
  print-nothing (list_of s atomic) = value_at-nothing
  print-nothing (list_of s set) = ap (λ hs. array_or_none (each_item scalar_in hs)) heads-nothing
  print-nothing (list_of s (keyed names)) = ap (λ hs. array_or_none (each_item (λ e. option_map (λ ms. object (print_item s (inside e nothing) ms)) (keys_in e)) hs)) heads-nothing

  pub print_fields-nothing : (all : Fields) (ms : Members) → print_fields all nothing ms ≡ ms
  print_fields-nothing no_fields ms = refl
  print_fields-nothing (field f s more) ms =
      ap (λ o. print_fields more nothing (with_member f o ms)) (ap (print s) (inside-nothing (name_text f)) ∙ print-nothing s) ∙ print_fields-nothing more ms

-- ---- children, one after another

-- a child that is printed
pub members_more : (inner : List ℕ → Option Data) (it left : Children) (e : String Global × PathMap) (o : Option Data) (ms new : Members) → it ≡ e ∷ left
    → o ≡ inner (string_bytes e.0) → new ≡ with_named (field_name (string_bytes e.0)) o ms → each_member inner (child_names left) new ≡ each_member inner (child_names it) ms
members_more inner it left e o ms new steps is put =
    ap (each_member inner (child_names left)) (put ∙ ap (λ d. with_named (field_name (string_bytes e.0)) d ms) is) ∙ ap (λ l. each_member inner (child_names l) ms) (sym steps)

-- the child at a place, and those after it
pub at_place : (all : Children) (i : ℕ) (e : String Global × PathMap) → i < length all → e ≡ get_or all i e → drop i all ≡ e ∷ drop (i + 1) all
at_place all i e lt is = drop_more all i e lt ∙ ap (λ x. x ∷ drop (i + 1) all) (sym is)

module _ (c : Content) (it left : Children) (e : String Global × PathMap) (steps : it ≡ e ∷ left) (inside_all : AreInside c it) where
  pub one_inside : inside (string_bytes e.0) c ≡ content e.1
  one_inside = (subst (AreInside c) steps inside_all).0

  pub rest_inside : AreInside c left
  rest_inside = (subst (AreInside c) steps inside_all).1

abbrev pub then_items : Items → Items → Items
then_items no_items more = more
then_items (item d ds) more = item d (then_items ds more)

items-append : (xs ys : List Value) → items_view (xs ++ ys) ≡ then_items (items_view xs) (items_view ys)
items-append [] ys = refl
items-append (x ∷ xs) ys = ap (item (view x)) (items-append xs ys)

items-one : (o : Option Value) (ds : Items) → then_items (items_view (option_to_list o)) ds ≡ with_item (option_map view o) ds
items-one None ds = refl
items-one (Some v) ds = refl

then-then : (xs ys zs : Items) → then_items (then_items xs ys) zs ≡ then_items xs (then_items ys zs)
then-then no_items ys zs = refl
then-then (item d xs) ys zs = ap (item d) (then-then xs ys zs)

then-none : (xs : Items) → then_items xs no_items ≡ xs
then-none no_items = refl
then-none (item d xs) = ap (item d) (then-none xs)

-- the items so far and those of the children that are left are all
abbrev pub AllItems : (List ℕ → Option Data) → Content → List Value → Children → Type 0
AllItems inner c xs it = then_items (items_view xs) (each_item inner (child_names it)) ≡ each_item inner (heads c)

module _ (inner : List ℕ → Option Data) where
  pub items_first : (c : Content) (xs : List Value) (it : Children) → xs ≡ [] → contents_in it ≡ children_of c → AllItems inner c xs it
  items_first c xs it none are = ap (λ l. then_items (items_view l) (each_item inner (child_names it))) none ∙ ap (each_item inner) (sym (heads-names c it are))

  pub items_last : (c : Content) (xs : List Value) (it : Children) → it ≡ [] → AllItems inner c xs it → items_view xs ≡ each_item inner (heads c)
  items_last c xs it none all = sym (then-none (items_view xs)) ∙ sym (ap (λ l. then_items (items_view xs) (each_item inner (child_names l))) none) ∙ all

  -- an item that is printed
  pub items_more : (c : Content) (it left : Children) (e : String Global × PathMap) (xs : List Value) → it ≡ e ∷ left → AllItems inner c xs it
      → (o : Option Value) (new : List Value) → option_map view o ≡ inner (string_bytes e.0) → new ≡ xs ++ option_to_list o → AllItems inner c new left
  items_more c it left e xs steps before o new is put =
      ap (λ l. then_items (items_view l) (each_item inner (child_names left))) put
      ∙ ap (λ ds. then_items ds (each_item inner (child_names left))) (items-append xs (option_to_list o))
      ∙ then-then (items_view xs) (items_view (option_to_list o)) (each_item inner (child_names left))
      ∙ ap (then_items (items_view xs)) (items-one o (each_item inner (child_names left)) ∙ ap (λ d. with_item d (each_item inner (child_names left))) is ∙ ap (λ l. each_item inner (child_names l)) (sym steps))
      ∙ before

-- ---- fields, one after another

pub fields_more : (all : List (String Global × Schema)) (i : ℕ) (f : String Global × Schema) → i < length all → f ≡ get_or all i f → (c : Content) (ms new : Members)
    → new ≡ with_member (string_bytes f.0) (print (shape f.1) (inside (name_text (string_bytes f.0)) c)) ms → print_fields (fields_in (drop (i + 1) all)) c new ≡ print_fields (fields_in (drop i all)) c ms
fields_more all i f lt is c ms new put = ap (print_fields (fields_in (drop (i + 1) all)) c) put ∙ sym (ap (λ fs. print_fields (fields_in fs) c ms) (drop_more all i f lt ∙ ap (λ x. x ∷ drop (i + 1) all) (sym is)))

-- ---- arrays and objects of what is there

pub array_some : (n : ℕ) (vs : List Value) (v : Value) → n ≡ length vs → (n == 0) ≡ false → view v ≡ array (items_view vs) → Some (view v) ≡ array_or_none (items_view vs)
array_some n [] v len some is = absurd (true≢false (sym (ap (λ m. m == 0) len) ∙ some))
array_some n (x ∷ vs) v len some is = ap Some is

pub object_some : (es : List (String Global × Value)) (v : Value) → (length es ≡ 0 → ⊥) → view v ≡ object (members_view es) → Some (view v) ≡ object_or_none (members_view es)
object_some [] v some is = absurd (some refl)
object_some (e ∷ es) v some is = ap Some is
