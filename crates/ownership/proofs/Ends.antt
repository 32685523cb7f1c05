-- Nothing has a place below a leaf or a set item.
use Rattle.std.proofs.Common.{◌≡◌, Bool, true, false, cond, List, [], ◌∷◌, ℕ, Option, Some, None, is_some, refl, sym, ap, ap₂, ◌∙◌, true≢false}
use Rattle.std.specs.Prelude.{option_and_then}
use Rattle.std.specs.List.{list_any}
use Rattle.std.specs.Str.{bytes_eq}
use Rattle.std.specs.Cmp.Lexicographic.{bytes_decides}
use Rattle.fieldpath.specs.Elements.{read_element, field_name}
use Rattle.fieldpath.specs.Paths.{PathTexts}
use Rattle.pathmap.specs.Beside.{is_prefix}
use Rattle.schema.specs.Place.{at_end, fits, fit_keys, set_item, list_item, by_field, item_or, place_of, place_in_list, place_in_field}
use Rattle.schema.specs.Shape.{atomic, set, keyed, Shape, text, whole, truth, struct_of, map_of, list_of, Fields, no_fields, field}
use Rattle.schema.specs.declared.place.Place.{Place}
use Rattle.schema.specs.declared.place.Place.TheVariants.{Leaf, SetItem}
use Rattle.ownership.specs.Keeping.{is_end}
use Rattle.objects.proofs.Within.{left_true, right_true}

abbrev Places : Type 0
Places = PathTexts → Option Place

-- of two paths with a place, one at an end and a prefix of the other, both are one
abbrev pub Ends : Places → Type 0
Ends place = (p r : PathTexts) → is_end (place p) ≡ true → is_some (place r) ≡ true → is_prefix p r ≡ true → p ≡ r

false_true : {A : Type 0} → false ≡ true → A
false_true e = absurd (true≢false (sym e))

at_end_ends : (place : Place) → Ends (λ p. at_end p place)
at_end_ends place [] [] end there prefix = refl
at_end_ends place [] (g ∷ r) end there prefix = false_true there
at_end_ends place (e ∷ p) r end there prefix = false_true end

-- a path that begins with an element of some name
first_ends : {A : Type 0} (name : List ℕ → Option A) (inner : A → Places) → ((a : A) → Ends (inner a)) → (place : Places) → (place [] ≡ None)
    → ((e : List ℕ) (p : PathTexts) → place (e ∷ p) ≡ option_and_then (λ a. inner a p) (name e)) → Ends place
first_ends name inner below place none next [] r end there prefix = false_true (sym (ap is_end none) ∙ end)
first_ends name inner below place none next (e ∷ p) [] end there prefix = false_true prefix
first_ends {A = A} name inner below place none next (e ∷ p) (g ∷ r) end there prefix = by_name (name e) refl
  where
    alike : e ≡ g
    alike = (bytes_decides e g).0 (left_true (bytes_eq e g) (is_prefix p r) prefix)

    by_name : (o : Option A) → name e ≡ o → e ∷ p ≡ g ∷ r
    by_name None is = false_true (sym (ap is_end (next e p ∙ ap (option_and_then (λ a. inner a p)) is)) ∙ end)
    by_name (Some a) is =
        ap₂ (λ x xs. x ∷ xs) alike (below a p r (sym (ap is_end (next e p ∙ ap (option_and_then (λ x. inner x p)) is)) ∙ end)
        (sym (ap is_some (next g r ∙ ap (λ x. option_and_then (λ y. inner y r) (name x)) (sym alike) ∙ ap (option_and_then (λ x. inner x r)) is)) ∙ there) (right_true (bytes_eq e g) (is_prefix p r) prefix))

where_ends : (b : Bool) (place : Places) → Ends place → Ends (λ q. cond b (place q) None)
where_ends true place h = h
where_ends false place h = λ p r end there prefix. false_true end

unless_ends : (b : Bool) (place : Places) → Ends place → Ends (λ q. cond b None (place q))
unless_ends true place h = λ p r end there prefix. false_true end
unless_ends false place h = h

either_ends : (b : Bool) (one other : Places) → Ends one → Ends other → Ends (λ q. cond b (one q) (other q))
either_ends true one other h k = h
either_ends false one other h k = k

item_ends : (below : Places) → Ends below → Ends (λ q. item_or q (below q))
item_ends below h [] r end there prefix = false_true end
item_ends below h (e ∷ p) [] end there prefix = false_true prefix
item_ends below h (e ∷ p) (g ∷ r) end there prefix = h (e ∷ p) (g ∷ r) end there prefix

by_field_ends : (inner : List ℕ → Places) → ((f : List ℕ) → Ends (inner f)) → Ends (by_field inner)
by_field_ends inner h = first_ends field_name inner h (by_field inner) refl (λ e p. refl)

fields_end : (known : List ℕ) (s : Shape) (more : Fields) → Ends (place_of s) → ((f : List ℕ) → Ends (place_in_field more f)) → (f : List ℕ) → Ends (place_in_field (field known s more) f)
fields_end known s more h later f = either_ends (bytes_eq known f) (place_of s) (place_in_field more f) h (later f)

set_ends : (s : Shape) → Ends (place_of (list_of s set))
set_ends s =
    first_ends (λ e. set_item (read_element e)) (λ v q. cond (fits s v) (at_end q SetItem) None) (λ v. where_ends (fits s v) (λ q. at_end q SetItem) (at_end_ends SetItem)) (place_of (list_of s set)) refl (λ e p. refl)

-- the places below an item, whose key fields have none
abbrev beside : List (List ℕ) → Fields → Places
beside names all = by_field (λ f r. cond (list_any (bytes_eq f) names) None (place_in_field all f r))

list_ends : (names : List (List ℕ)) (all : Fields) (b : Bool) → ((f : List ℕ) → Ends (place_in_field all f)) → Ends (place_in_list names (struct_of all b))
list_ends names all b h =
    let below_ends = by_field_ends (λ f r. cond (list_any (bytes_eq f) names) None (place_in_field all f r)) (λ f. unless_ends (list_any (bytes_eq f) names) (place_in_field all f) (h f)) in
    first_ends (λ e. list_item (read_element e)) (λ ks q. cond (fit_keys names all ks) (item_or q (beside names all q)) None)
    (λ ks. where_ends (fit_keys names all ks) (λ q. item_or q (beside names all q)) (item_ends (beside names all) below_ends)) (place_in_list names (struct_of all b)) refl (λ e p. refl)

nowhere_ends : (place : Places) → ((p : PathTexts) → place p ≡ None) → Ends place
nowhere_ends place none p r end there prefix = false_true (sym (ap is_end (none p)) ∙ end)

mutual
  pub ends : (s : Shape) → Ends (place_of s)
  ends text = at_end_ends Leaf
  ends whole = at_end_ends Leaf
  ends truth = at_end_ends Leaf
  ends (struct_of all true) = at_end_ends Leaf
  ends (struct_of all false) = by_field_ends (place_in_field all) (fields_ends all)
  ends (map_of s true) = at_end_ends Leaf
  ends (map_of s false) = by_field_ends (λ f q. place_of s q) (λ f. ends s)
  ends (list_of s atomic) = at_end_ends Leaf
  ends (list_of s set) = set_ends s
  ends (list_of s (keyed names)) = items_end names s

  items_end : (names : List (List ℕ)) (s : Shape) → Ends (place_in_list names s)
  items_end names text = nowhere_ends (place_in_list names text) (λ p. refl)
  items_end names whole = nowhere_ends (place_in_list names whole) (λ p. refl)
  items_end names truth = nowhere_ends (place_in_list names truth) (λ p. refl)
  items_end names (map_of s b) = nowhere_ends (place_in_list names (map_of s b)) (λ p. refl)
  items_end names (list_of s kind) = nowhere_ends (place_in_list names (list_of s kind)) (λ p. refl)
  items_end names (struct_of all b) = list_ends names all b (fields_ends all)

  fields_ends : (fs : Fields) (f : List ℕ) → Ends (place_in_field fs f)
  fields_ends no_fields f = nowhere_ends (place_in_field no_fields f) (λ p. refl)
  fields_ends (field known s more) f = fields_end known s more (ends s) (fields_ends more) f
