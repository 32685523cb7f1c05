-- The paths of a content that a shape has are those that it gives a place.
use Rattle.std.proofs.Common.{◌≡◌, ℕ, Bool, true, false, cond, ◌||◌, List, [], ◌∷◌, drop, Option, Some, None, is_some, inl, inr, ◌⊎◌, refl, sym, ap, ◌∙◌, true≢false}
use Rattle.std.specs.Prelude.{option_and_then}
use Rattle.std.specs.FinMap as fin
use Rattle.std.specs.List.{list_any}
use Rattle.std.specs.Str.{bytes_eq}
use Rattle.std.proofs.lemmas.Slice.Eq.{bytes_eq-Decides}
use Rattle.serde_json.specs.Written.{compact_text}
use Rattle.fieldpath.specs.Elements.{has_prefix, name_text, field_name}
use Rattle.fieldpath.specs.Paths.{PathTexts}
use Rattle.pathmap.specs.Contents.{LeafValue, Content, nothing, here}
use Rattle.pathmap.specs.Contents as leaf_value
use Rattle.pathmap.specs.Insides.{inside}
use Rattle.pathmap.proofs.Contents.{get-nothing, get-here-below}
use Rattle.schema.specs.Place.{at_end, fits, fit_keys, set_item, list_item, by_field, item_or, place_of, place_in_list, place_in_field}
use Rattle.schema.specs.Shape.{atomic, set, keyed, Shape, text, whole, truth, struct_of, map_of, list_of, Fields, no_fields, field}
use Rattle.schema.specs.declared.place.Place.{Place}
use Rattle.schema.specs.declared.place.Place.TheVariants.{Leaf, SetItem}
use Rattle.typed.specs.WellTyped.{IsAtomic, is_field, IsSetItem, HasKeys, IsItem, AreWellTyped, HavePlaces}
use Rattle.typed.specs.Reading.{leaf}
use Rattle.pathmap.proofs.Insides.{get-inside}
use Rattle.typed.proofs.RoundTrip.{leaf_is}

pub none_there : (c : Content) (p : PathTexts) → c ≡ nothing → is_some (fin.get c p) ≡ true → ⊥
none_there c p none h = true≢false (sym h ∙ ap (λ d. is_some (fin.get d p)) none ∙ ap is_some (get-nothing p))

-- a value at the empty path alone
at_top : (c : Content) (v : LeafValue) (place : Place) → c ≡ here v → (p : PathTexts) → is_some (fin.get c p) ≡ true → is_some (at_end p place) ≡ true
at_top c v place is [] h = refl
at_top c v place is (g ∷ q) h = absurd (true≢false (sym h ∙ ap (λ d. is_some (fin.get d (g ∷ q))) is ∙ ap is_some (get-here-below v g q)))

at_leaf : (s : Shape) (c : Content) → IsAtomic s c → (p : PathTexts) → is_some (fin.get c p) ≡ true → is_some (at_end p Leaf) ≡ true
at_leaf s c (inl none) p h = absurd (none_there c p none h)
at_leaf s c (inr (d, plain, reads, is)) p h = by_leaf (leaf_is d)
  where
    by_leaf : (leaf d ≡ nothing) ⊎ (leaf d ≡ here (leaf_value.plain (compact_text d))) → is_some (at_end p Leaf) ≡ true
    by_leaf (inl none) = absurd (none_there c p (is ∙ none) h)
    by_leaf (inr there) = at_top c (leaf_value.plain (compact_text d)) Leaf (is ∙ there) p h

-- ---- fields

name_field : (f : List ℕ) → field_name (name_text f) ≡ Some f
unfolding name_text
name_field f = refl

pub one_of : (all : Fields) (e : List ℕ) → is_field all e ≡ true → (f : List ℕ) × (e ≡ name_text f)
one_of no_fields e h = absurd (true≢false (sym h))
one_of (field f s more) e h = by_test (bytes_eq e (name_text f)) refl h (one_of more e)
  where
    by_test : (b : Bool) → bytes_eq e (name_text f) ≡ b → (b || is_field more e) ≡ true → (is_field more e ≡ true → (g : List ℕ) × (e ≡ name_text g)) → (g : List ℕ) × (e ≡ name_text g)
    by_test true t h later = (f, (bytes_eq-Decides e (name_text f)).0 t)
    by_test false t h later = later h

pub same_name : (f g : List ℕ) → name_text f ≡ name_text g → f ≡ g
unfolding name_text
same_name f g h = ap (drop 2) h

pub other_name : (known f : List ℕ) → bytes_eq known f ≡ false → (b : Bool) → (bytes_eq (name_text f) (name_text known) || b) ≡ true → b ≡ true
other_name known f apart b h = by_test (bytes_eq (name_text f) (name_text known)) refl h
  where
    by_test : (t : Bool) → bytes_eq (name_text f) (name_text known) ≡ t → (t || b) ≡ true → b ≡ true
    by_test true t h = absurd (true≢false (sym ((bytes_eq-Decides known f).1 (sym (same_name f known ((bytes_eq-Decides (name_text f) (name_text known)).0 t)))) ∙ apart))
    by_test false t h = h

unless_key : (b : Bool) (o : Option Place) → (b ≡ true → ⊥) → is_some o ≡ true → is_some (cond b None o) ≡ true
unless_key true o = λ no h. absurd (no refl)
unless_key false o = λ no h. h

-- the place of a path below an item, whose key fields have none
abbrev beside : List (List ℕ) → Fields → PathTexts → Option Place
beside names all q = by_field (λ f r. cond (list_any (bytes_eq f) names) None (place_in_field all f r)) q

in_place : (c : Content) (e : List ℕ) (q : PathTexts) → is_some (fin.get c (e ∷ q)) ≡ true → is_some (fin.get (inside e c) q) ≡ true
in_place c e q h = ap is_some (get-inside e c q) ∙ h

-- each path below one of the fields has a place there
abbrev HasPlaces : Shape → Content → Type 0
HasPlaces s c = (q : PathTexts) → is_some (fin.get c q) ≡ true → is_some (place_of s q) ≡ true

abbrev FieldPlaces : Fields → Content → Type 0
FieldPlaces no_fields c = Unit {0}
FieldPlaces (field f s more) c = HasPlaces s (inside (name_text f) c) × FieldPlaces more c

field_place : (fs : Fields) (c : Content) (f : List ℕ) (q : PathTexts) → is_some (fin.get c (name_text f ∷ q)) ≡ true → is_field fs (name_text f) ≡ true → FieldPlaces fs c → is_some (place_in_field fs f q) ≡ true
field_place no_fields c f q h t below = absurd (true≢false (sym t))
field_place (field known s more) c f q h t below = by_test (bytes_eq known f) refl (field_place more c f q h)
  where
    by_test : (b : Bool) → bytes_eq known f ≡ b → (is_field more (name_text f) ≡ true → FieldPlaces more c → is_some (place_in_field more f q) ≡ true) → is_some (cond b (place_of s q) (place_in_field more f q)) ≡ true
    by_test true is later = below.0 q (in_place c (name_text known) q (ap (λ g. is_some (fin.get c (name_text g ∷ q))) ((bytes_eq-Decides known f).0 is) ∙ h))
    by_test false is later = later (other_name known f is (is_field more (name_text f)) t) below.1

by_field_of : (all : Fields) (c : Content) (e : List ℕ) (q : PathTexts) → is_some (fin.get c (e ∷ q)) ≡ true → (b : Bool) → is_field all e ≡ b → (is_field all e ≡ false → fin.get c (e ∷ q) ≡ None) → FieldPlaces all c
    → is_some (option_and_then (λ f. place_in_field all f q) (field_name e)) ≡ true
by_field_of all c e q h false t none below = absurd (true≢false (sym h ∙ ap is_some (none t)))
by_field_of all c e q h true t none below =
    let named = one_of all e t in
    ap (λ o. is_some (option_and_then (λ f. place_in_field all f q) o)) (ap field_name named.1 ∙ name_field named.0)
    ∙ field_place all c named.0 q (ap (λ g. is_some (fin.get c (g ∷ q))) (sym named.1) ∙ h) (ap (is_field all) (sym named.1) ∙ t) below

by_name : (s : Shape) (c : Content) (e : List ℕ) (q : PathTexts) → is_some (fin.get c (e ∷ q)) ≡ true → (b : Bool) → has_prefix 102 e ≡ b → (has_prefix 102 e ≡ false → fin.get c (e ∷ q) ≡ None) → HasPlaces s (inside e c)
    → is_some (option_and_then (λ f. place_of s q) (cond b (Some (drop 2 e)) None)) ≡ true
by_name s c e q h true t none below = below q (in_place c e q h)
by_name s c e q h false t none below = absurd (true≢false (sym h ∙ ap is_some (none t)))

set_place : (s : Shape) (c : Content) (e : List ℕ) (q : PathTexts) → is_some (fin.get c q) ≡ true → (c ≡ nothing) ⊎ IsSetItem s e c → is_some (place_of (list_of s set) (e ∷ q)) ≡ true
set_place s c e q h (inl none) = absurd (none_there c q none h)
set_place s c e q h (inr (v, is, fit, there)) =
    ap (λ r. is_some (option_and_then (λ w. cond (fits s w) (at_end q SetItem) None) (set_item r))) is ∙ ap (λ b. is_some (cond b (at_end q SetItem) None)) fit ∙ at_top c leaf_value.mark SetItem there q h

module _ (names : List (List ℕ)) (all : Fields) (c : Content) (none : (g : List ℕ) (r : PathTexts) → is_field all g ≡ false → fin.get c (g ∷ r) ≡ None)
    (bare : (f : List ℕ) → list_any (bytes_eq f) names ≡ true → inside (name_text f) c ≡ nothing) (below : FieldPlaces all c) where
  item_field : (g : List ℕ) (r : PathTexts) → is_some (fin.get c (g ∷ r)) ≡ true → (b : Bool) → is_field all g ≡ b → is_some (beside names all (g ∷ r)) ≡ true
  item_field g r h false t = absurd (true≢false (sym h ∙ ap is_some (none g r t)))
  item_field g r h true t =
      let named = one_of all g t in
      let f = named.0 in
      let there : is_some (fin.get c (name_text f ∷ r)) ≡ true = ap (λ x. is_some (fin.get c (x ∷ r))) (sym named.1) ∙ h in
      ap (λ o. is_some (option_and_then (λ k. cond (list_any (bytes_eq k) names) None (place_in_field all k r)) o)) (ap field_name named.1 ∙ name_field f)
      ∙ unless_key (list_any (bytes_eq f) names) (place_in_field all f r) (λ k. none_there (inside (name_text f) c) r (bare f k) (in_place c (name_text f) r there))
      (field_place all c f r there (ap (is_field all) (sym named.1) ∙ t) below)

  item_place : (q : PathTexts) → is_some (fin.get c q) ≡ true → is_some (item_or q (beside names all q)) ≡ true
  item_place [] h = refl
  item_place (g ∷ r) h = item_field g r h (is_field all g) refl

keys_place : (names : List (List ℕ)) (all : Fields) (b : Bool) (c : Content) (e : List ℕ) (q : PathTexts) → is_some (fin.get c q) ≡ true → HasKeys names all e c → FieldPlaces all c
    → is_some (place_in_list names (struct_of all b) (e ∷ q)) ≡ true
keys_place names all b c e q h (ks, is, fit, top, none, bare) below =
    ap (λ r. is_some (option_and_then (λ ls. cond (fit_keys names all ls) (item_or q (beside names all q)) None) (list_item r))) is ∙ ap (λ t. is_some (cond t (item_or q (beside names all q)) None)) fit
    ∙ item_place names all c none bare below q h

top_none : {X : Type 0} (c : Content) → is_some (fin.get c []) ≡ true → fin.get c [] ≡ None → X
top_none c h none = absurd (true≢false (sym h ∙ ap is_some none))

mutual
  pub places : HavePlaces
  places text c (inl none) p h = absurd (none_there c p none h)
  places text c (inr (s, is)) p h = at_top c (leaf_value.text s) Leaf is p h
  places whole c (inl none) p h = absurd (none_there c p none h)
  places whole c (inr (n, within, is)) p h = at_top c (leaf_value.whole n) Leaf is p h
  places truth c (inl none) p h = absurd (none_there c p none h)
  places truth c (inr (b, is)) p h = at_top c (leaf_value.truth b) Leaf is p h
  places (struct_of all true) c well_typed p h = at_leaf (struct_of all true) c well_typed p h
  places (struct_of all false) c well_typed [] h = top_none c h well_typed.0.0
  places (struct_of all false) c well_typed (e ∷ q) h = by_field_of all c e q h (is_field all e) refl (well_typed.0.1 e q) (field_places all c well_typed.1)
  places (map_of s true) c well_typed p h = at_leaf (map_of s true) c well_typed p h
  places (map_of s false) c well_typed [] h = top_none c h well_typed.0.0
  places (map_of s false) c well_typed (e ∷ q) h = by_name s c e q h (has_prefix 102 e) refl (well_typed.0.1 e q) (λ r k. places s (inside e c) (well_typed.1 e) r k)
  places (list_of s atomic) c well_typed p h = at_leaf (list_of s atomic) c well_typed p h
  places (list_of s set) c well_typed [] h = top_none c h well_typed.0
  places (list_of s set) c well_typed (e ∷ q) h = set_place s (inside e c) e q (in_place c e q h) (well_typed.1 e)
  places (list_of s (keyed names)) c well_typed [] h = top_none c h well_typed.0
  places (list_of s (keyed names)) c well_typed (e ∷ q) h = item_places names s (inside e c) e q (in_place c e q h) (well_typed.1 e)

  item_places : (names : List (List ℕ)) (s : Shape) (c : Content) (e : List ℕ) (q : PathTexts) → is_some (fin.get c q) ≡ true → (c ≡ nothing) ⊎ IsItem names s e c → is_some (place_in_list names s (e ∷ q)) ≡ true
  item_places names s c e q h (inl none) = absurd (none_there c q none h)
  item_places names text c e q h (inr well_typed) = absurd well_typed
  item_places names whole c e q h (inr well_typed) = absurd well_typed
  item_places names truth c e q h (inr well_typed) = absurd well_typed
  item_places names (map_of s b) c e q h (inr well_typed) = absurd well_typed
  item_places names (list_of s kind) c e q h (inr well_typed) = absurd well_typed
  item_places names (struct_of all b) c e q h (inr well_typed) = keys_place names all b c e q h well_typed.0 (field_places all c well_typed.1)

  field_places : (fs : Fields) (c : Content) → AreWellTyped fs c → FieldPlaces fs c
  field_places no_fields c well_typed = tt
  field_places (field f s more) c well_typed = ((λ q h. places s (inside (name_text f) c) well_typed.0 q h), field_places more c well_typed.1)
