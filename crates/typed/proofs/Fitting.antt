-- A content path by path is the same as one level by level.
use Rattle.std.proofs.Common.{◌≡◌, ℕ, ℤ, Bool, true, false, ◌||◌, ◌⊎◌, inl, inr, List, [], ◌∷◌, ◌++◌, Option, Some, None, is_some, Less, nat_cmp, is_eq, refl, sym, ap, ap₂, ◌∙◌, true≢false, subst}
use Rattle.std.proofs.lemmas.Bool.{and_parts}
use Rattle.std.proofs.lemmas.Map.Text.{is_eq-slice_cmp}
use Rattle.std.proofs.lemmas.Slice.Eq.{bytes_eq-Decides}
use Rattle.std.specs.Cmp.Lexicographic.{slice_cmp}
use Rattle.std.specs.FinMap as fin
use Rattle.std.specs.List.{AllByRecursion, list_any}
use Rattle.std.specs.Str.{bytes_eq}
use Rattle.serde_json.specs.Written.{compact_text}
use Rattle.fieldpath.specs.Elements.{has_prefix, name_text}
use Rattle.fieldpath.specs.Paths.{PathTexts}
use Rattle.fieldpath.specs.Scalars.{ascend}
use Rattle.pathmap.specs.Contents.{LeafValue, Content, nothing, here}
use Rattle.pathmap.specs.Contents as leaf_value
use Rattle.pathmap.specs.Insides.{inside}
use Rattle.pathmap.proofs.Contents.{same, get-nothing, get-here-below}
use Rattle.pathmap.proofs.Levels.{get-here-top}
use Rattle.schema.specs.Lawful.{names_of, is_well_formed, are_well_formed, item_is_lawful}
use Rattle.schema.specs.Shape.{atomic, set, keyed, Shape, text, whole, truth, struct_of, map_of, list_of, Fields, no_fields, field}
use Rattle.typed.specs.Fitting.{IsWholeValue, AtEnd, MarkOrBelow, FitsAt, FitsItem, FitsField, IsPresent, FitsAll, IsClosed, IsContent, ContentsAreWellTyped}
use Rattle.typed.specs.WellTyped.{When, IsWithin, IsAtomic, is_field, IsSetItem, IsItem, IsWellTyped, AreWellTyped}
use Rattle.typed.specs.Reading.{leaf}
use Rattle.pathmap.proofs.Heads.{itself}
use Rattle.pathmap.proofs.Insides.{get-inside}
use Rattle.typed.proofs.KeyFields.{AreRising, ascend_rising}
use Rattle.typed.proofs.Places.{none_there, one_of, same_name, other_name}
use Rattle.typed.proofs.Placing.{prefix_of_name}
use Rattle.typed.proofs.RoundTrip.{leaf_is, one_so, other_so, prefix_name}

-- ---- values at a path

abbrev value_or : LeafValue → Option LeafValue → LeafValue
value_or v None = v
value_or v (Some w) = w

pub some_same : (v w : LeafValue) → Some v ≡ Some w → v ≡ w
some_same v w h = ap (value_or v) h

none_some : {A : Type 0} (o : Option LeafValue) (v : LeafValue) → o ≡ None → o ≡ Some v → A
none_some o v none some = absurd (true≢false (sym (ap is_some some) ∙ ap is_some none))

pub some_is : (o : Option LeafValue) → is_some o ≡ true → (v : LeafValue) × (o ≡ Some v)
some_is None h = absurd (true≢false (sym h))
some_is (Some v) h = (v, refl)

pub is_there : (o : Option LeafValue) (v : LeafValue) → o ≡ Some v → is_some o ≡ true
is_there o v h = ap is_some h

-- where no value can stand, none does
pub no_value : (o : Option LeafValue) → ((v : LeafValue) → o ≡ Some v → ⊥) → o ≡ None
no_value None h = refl
no_value (Some v) h = absurd (h v refl)

abbrev is_mark : LeafValue → Bool
is_mark (leaf_value.text s) = false
is_mark (leaf_value.whole n) = false
is_mark (leaf_value.truth b) = false
is_mark (leaf_value.plain s) = false
is_mark leaf_value.mark = true

no_mark : {A : Type 0} (v : LeafValue) → is_mark v ≡ false → leaf_value.mark ≡ v → A
no_mark v h is = absurd (true≢false (ap is_mark is ∙ h))

pub here_same : (v w : LeafValue) → here v ≡ here w → v ≡ w
here_same v w h = some_same v w (sym (get-here-top v) ∙ ap (λ c. fin.get c []) h ∙ get-here-top w)

-- a whole value is no mark
no_whole_mark : {A : Type 0} (s : Shape) → IsWholeValue s leaf_value.mark → A
no_whole_mark s (d, plain, reads, is) = by_leaf (leaf_is d)
  where
    by_leaf : {A : Type 0} → (leaf d ≡ nothing) ⊎ (leaf d ≡ here (leaf_value.plain (compact_text d))) → A
    by_leaf (inl none) = absurd (none_there (here leaf_value.mark) [] (sym is ∙ none) (ap is_some (get-here-top leaf_value.mark)))
    by_leaf (inr there) = no_mark (leaf_value.plain (compact_text d)) refl (here_same leaf_value.mark (leaf_value.plain (compact_text d)) (sym is ∙ there))

-- no item stands at the empty path
pub no_mark_on_top : {A : Type 0} (s : Shape) → FitsAt s [] leaf_value.mark → A
no_mark_on_top text fit = no_mark (leaf_value.text fit.0) refl fit.1
no_mark_on_top whole fit = no_mark (leaf_value.whole fit.0) refl fit.2
no_mark_on_top truth fit = no_mark (leaf_value.truth fit.0) refl fit.1
no_mark_on_top (struct_of all true) fit = no_whole_mark (struct_of all true) fit
no_mark_on_top (struct_of all false) fit = absurd fit
no_mark_on_top (map_of s true) fit = no_whole_mark (map_of s true) fit
no_mark_on_top (map_of s false) fit = absurd fit
no_mark_on_top (list_of s atomic) fit = no_whole_mark (list_of s atomic) fit
no_mark_on_top (list_of s set) fit = absurd fit
no_mark_on_top (list_of s (keyed names)) fit = absurd fit

at_inside : (e : List ℕ) (c : Content) (q : PathTexts) (v : LeafValue) → fin.get (inside e c) q ≡ Some v → fin.get c (e ∷ q) ≡ Some v
at_inside e c q v h = sym (get-inside e c q) ∙ h

stands_inside : (e : List ℕ) (c : Content) (q : PathTexts) → IsPresent c (e ∷ q) → IsPresent (inside e c) q
stands_inside e c q h = ap is_some (get-inside e c q) ∙ h

stands_outside : (e : List ℕ) (c : Content) (q : PathTexts) → IsPresent (inside e c) q → IsPresent c (e ∷ q)
stands_outside e c q h = ap is_some (sym (get-inside e c q)) ∙ h

-- ---- from levels to paths

-- a value alone
one_fits : (P : LeafValue → Type 0) (c : Content) (w : LeafValue) → c ≡ here w → P w → (p : PathTexts) (v : LeafValue) → fin.get c p ≡ Some v → AtEnd p (P v)
one_fits P c w is fit [] v h = subst P (some_same w v (sym (get-here-top w) ∙ sym (ap (λ d. fin.get d []) is) ∙ h)) fit
one_fits P c w is fit (g ∷ q) v h = none_some (fin.get c (g ∷ q)) v (ap (λ d. fin.get d (g ∷ q)) is ∙ get-here-below w g q) h

none_fits : {A : Type 0} (c : Content) (p : PathTexts) (v : LeafValue) → c ≡ nothing → fin.get c p ≡ Some v → A
none_fits c p v none h = absurd (none_there c p none (ap is_some h))

whole_fits : (s : Shape) (c : Content) → IsAtomic s c → (p : PathTexts) (v : LeafValue) → fin.get c p ≡ Some v → AtEnd p (IsWholeValue s v)
whole_fits s c (inl none) p v h = none_fits c p v none h
whole_fits s c (inr (d, plain, reads, is)) p v h = by_leaf (leaf_is d)
  where
    by_leaf : (leaf d ≡ nothing) ⊎ (leaf d ≡ here (leaf_value.plain (compact_text d))) → AtEnd p (IsWholeValue s v)
    by_leaf (inl none) = none_fits c p v (is ∙ none) h
    by_leaf (inr there) = one_fits (IsWholeValue s) c (leaf_value.plain (compact_text d)) (is ∙ there) (d, plain, reads, there) p v h

-- what is known of each field's content
abbrev FieldsAre : (Shape → Content → Type 0) → Fields → Content → Type 0
FieldsAre P no_fields c = Unit {0}
FieldsAre P (field f s more) c = P s (inside (name_text f) c) × FieldsAre P more c

field_fits : (fs : Fields) (c : Content) (f : List ℕ) (q : PathTexts) (v : LeafValue) → fin.get c (name_text f ∷ q) ≡ Some v → is_field fs (name_text f) ≡ true → FieldsAre FitsAll fs c → FitsField fs f q v
field_fits no_fields c f q v h t fit = absurd (true≢false (sym t))
field_fits (field known s more) c f q v h t fit = by_test (bytes_eq known f) refl (field_fits more c f q v h)
  where
    by_test : (b : Bool) → bytes_eq known f ≡ b → (is_field more (name_text f) ≡ true → FieldsAre FitsAll more c → FitsField more f q v) → When b (FitsAt s q v) (FitsField more f q v)
    by_test true is later = fit.0 q v (get-inside (name_text known) c q ∙ ap (λ g. fin.get c (name_text g ∷ q)) ((bytes_eq-Decides known f).0 is) ∙ h)
    by_test false is later = later (other_name known f is (is_field more (name_text f)) t) fit.1

field_closed : (fs : Fields) (c : Content) (f : List ℕ) (p q : PathTexts) → FitsField fs f p leaf_value.mark → FieldsAre IsClosed fs c → IsPresent c (name_text f ∷ p ++ q) → IsPresent c (name_text f ∷ p)
field_closed no_fields c f p q fit closed h = absurd fit
field_closed (field known s more) c f p q fit closed h = by_test (bytes_eq known f) refl fit (λ later. field_closed more c f p q later closed.1 h)
  where
    by_test : (b : Bool) → bytes_eq known f ≡ b → When b (FitsAt s p leaf_value.mark) (FitsField more f p leaf_value.mark) → (FitsField more f p leaf_value.mark → IsPresent c (name_text f ∷ p)) → IsPresent c (name_text f ∷ p)
    by_test true is fit later =
        subst (λ g. IsPresent c (name_text g ∷ p)) ((bytes_eq-Decides known f).0 is)
        (stands_outside (name_text known) c p (closed.0 p q fit (stands_inside (name_text known) c (p ++ q) (subst (λ g. IsPresent c (name_text g ∷ p ++ q)) (sym ((bytes_eq-Decides known f).0 is)) h))))
    by_test false is fit later = later fit

abbrev FieldOf : Fields → List ℕ → PathTexts → LeafValue → Type 0
FieldOf all e q v = (f : List ℕ) × (e ≡ name_text f) × FitsField all f q v

struct_fits : (all : Fields) (c : Content) (e : List ℕ) (q : PathTexts) (v : LeafValue) → fin.get c (e ∷ q) ≡ Some v → (b : Bool) → is_field all e ≡ b → (is_field all e ≡ false → fin.get c (e ∷ q) ≡ None) → FieldsAre FitsAll all c → FieldOf all e q v
struct_fits all c e q v h false t none fit = none_some (fin.get c (e ∷ q)) v (none t) h
struct_fits all c e q v h true t none fit =
    let named = one_of all e t in (named.0, named.1, field_fits all c named.0 q v (ap (λ g. fin.get c (g ∷ q)) (sym named.1) ∙ h) (ap (is_field all) (sym named.1) ∙ t) fit)

map_fits : (s : Shape) (c : Content) (e : List ℕ) (q : PathTexts) (v : LeafValue) → fin.get c (e ∷ q) ≡ Some v → (b : Bool) → has_prefix 102 e ≡ b → (has_prefix 102 e ≡ false → fin.get c (e ∷ q) ≡ None) → FitsAll s (inside e c)
    → (f : List ℕ) × (e ≡ name_text f) × FitsAt s q v
map_fits s c e q v h false t none fit = none_some (fin.get c (e ∷ q)) v (none t) h
map_fits s c e q v h true t none fit = let named = prefix_name e t in (named.0, named.2, fit q v (get-inside e c q ∙ h))

set_fits : (s : Shape) (c : Content) (e : List ℕ) (q : PathTexts) (v : LeafValue) → fin.get c q ≡ Some v → (c ≡ nothing) ⊎ IsSetItem s e c → FitsAt (list_of s set) (e ∷ q) v
set_fits s c e q v h (inl none) = none_fits c q v none h
set_fits s c e q v h (inr (x, is, fit, there)) = (x, is, fit, one_fits (λ w. w ≡ leaf_value.mark) c leaf_value.mark there refl q v h)

module _ (names : List (List ℕ)) (all : Fields) (c : Content) (none : (g : List ℕ) (r : PathTexts) → is_field all g ≡ false → fin.get c (g ∷ r) ≡ None)
    (bare : (f : List ℕ) → list_any (bytes_eq f) names ≡ true → inside (name_text f) c ≡ nothing) where
  no_key : (f : List ℕ) (r : PathTexts) → IsPresent c (name_text f ∷ r) → list_any (bytes_eq f) names ≡ false
  no_key f r h = by_test (list_any (bytes_eq f) names) refl
    where
      by_test : (b : Bool) → list_any (bytes_eq f) names ≡ b → b ≡ false
      by_test true t = absurd (none_there (inside (name_text f) c) r (bare f t) (stands_inside (name_text f) c r h))
      by_test false t = refl

  item_fits : FieldsAre FitsAll all c → fin.get c [] ≡ Some leaf_value.mark → (q : PathTexts) (v : LeafValue) → fin.get c q ≡ Some v
      → MarkOrBelow v (λ g r. (f : List ℕ) × (g ≡ name_text f) × (list_any (bytes_eq f) names ≡ false) × FitsField all f r v) q
  item_fits fit top [] v h = some_same v leaf_value.mark (sym h ∙ top)
  item_fits fit top (g ∷ r) v h =
      let found = struct_fits all c g r v h (is_field all g) refl (none g r) fit in
      (found.0, found.1, no_key found.0 r (subst (λ x. IsPresent c (x ∷ r)) found.1 (ap is_some h)), found.2)

mutual
  pub well_typed_fits : (s : Shape) (c : Content) → IsWellTyped s c → FitsAll s c
  well_typed_fits text c (inl none) p v h = none_fits c p v none h
  well_typed_fits text c (inr (s, is)) p v h = one_fits (λ w. (t : List ℕ) × (w ≡ leaf_value.text t)) c (leaf_value.text s) is (s, refl) p v h
  well_typed_fits whole c (inl none) p v h = none_fits c p v none h
  well_typed_fits whole c (inr (n, within, is)) p v h = one_fits (λ w. (m : ℤ) × IsWithin m × (w ≡ leaf_value.whole m)) c (leaf_value.whole n) is (n, within, refl) p v h
  well_typed_fits truth c (inl none) p v h = none_fits c p v none h
  well_typed_fits truth c (inr (b, is)) p v h = one_fits (λ w. (t : Bool) × (w ≡ leaf_value.truth t)) c (leaf_value.truth b) is (b, refl) p v h
  well_typed_fits (struct_of all true) c well_typed p v h = whole_fits (struct_of all true) c well_typed p v h
  well_typed_fits (struct_of all false) c well_typed [] v h = none_some (fin.get c []) v well_typed.0.0 h
  well_typed_fits (struct_of all false) c well_typed (e ∷ q) v h = struct_fits all c e q v h (is_field all e) refl (well_typed.0.1 e q) (fields_fit all c well_typed.1)
  well_typed_fits (map_of s true) c well_typed p v h = whole_fits (map_of s true) c well_typed p v h
  well_typed_fits (map_of s false) c well_typed [] v h = none_some (fin.get c []) v well_typed.0.0 h
  well_typed_fits (map_of s false) c well_typed (e ∷ q) v h = map_fits s c e q v h (has_prefix 102 e) refl (well_typed.0.1 e q) (λ r w k. well_typed_fits s (inside e c) (well_typed.1 e) r w k)
  well_typed_fits (list_of s atomic) c well_typed p v h = whole_fits (list_of s atomic) c well_typed p v h
  well_typed_fits (list_of s set) c well_typed [] v h = none_some (fin.get c []) v well_typed.0 h
  well_typed_fits (list_of s set) c well_typed (e ∷ q) v h = set_fits s (inside e c) e q v (get-inside e c q ∙ h) (well_typed.1 e)
  well_typed_fits (list_of s (keyed names)) c well_typed [] v h = none_some (fin.get c []) v well_typed.0 h
  well_typed_fits (list_of s (keyed names)) c well_typed (e ∷ q) v h = items_fit names s (inside e c) e q v (get-inside e c q ∙ h) (well_typed.1 e)

  items_fit : (names : List (List ℕ)) (s : Shape) (c : Content) (e : List ℕ) (q : PathTexts) (v : LeafValue) → fin.get c q ≡ Some v → (c ≡ nothing) ⊎ IsItem names s e c → FitsItem names s e q v
  items_fit names s c e q v h (inl none) = none_fits c q v none h
  items_fit names text c e q v h (inr well_typed) = absurd well_typed
  items_fit names whole c e q v h (inr well_typed) = absurd well_typed
  items_fit names truth c e q v h (inr well_typed) = absurd well_typed
  items_fit names (map_of s b) c e q v h (inr well_typed) = absurd well_typed
  items_fit names (list_of s kind) c e q v h (inr well_typed) = absurd well_typed
  items_fit names (struct_of all b) c e q v h (inr ((ks, is, fit, top, none, bare), well_typed)) = (ks, is, fit, item_fits names all c none bare (fields_fit all c well_typed) top q v h)

  fields_fit : (fs : Fields) (c : Content) → AreWellTyped fs c → FieldsAre FitsAll fs c
  fields_fit no_fields c well_typed = tt
  fields_fit (field f s more) c well_typed = ((λ q v h. well_typed_fits s (inside (name_text f) c) well_typed.0 q v h), fields_fit more c well_typed.1)

-- ---- items above

struct_closed : (all : Fields) (c : Content) (e : List ℕ) (p q : PathTexts) → FieldsAre IsClosed all c → FieldOf all e p leaf_value.mark → IsPresent c (e ∷ p ++ q) → IsPresent c (e ∷ p)
struct_closed all c e p q closed (f, is, fit) h = subst (λ g. IsPresent c (g ∷ p)) (sym is) (field_closed all c f p q fit closed (subst (λ g. IsPresent c (g ∷ p ++ q)) is h))

set_closed : (s : Shape) (c : Content) (e : List ℕ) (p q : PathTexts) → FitsAt (list_of s set) (e ∷ p) leaf_value.mark → (inside e c ≡ nothing) ⊎ IsSetItem s e (inside e c) → IsPresent c (e ∷ p ++ q) → IsPresent c (e ∷ p)
set_closed s c e p q fit (inl none) h = absurd (none_there (inside e c) (p ++ q) none (stands_inside e c (p ++ q) h))
set_closed s c e [] q fit (inr (x, is, fit_x, there)) h = stands_outside e c [] (ap is_some (ap (λ d. fin.get d []) there ∙ get-here-top leaf_value.mark))
set_closed s c e (g ∷ p) q fit (inr there) h = absurd fit.3

item_closed : (names : List (List ℕ)) (all : Fields) (b : Bool) (c : Content) (e : List ℕ) (p q : PathTexts) → FitsItem names (struct_of all b) e p leaf_value.mark → fin.get c [] ≡ Some leaf_value.mark → FieldsAre IsClosed all c → IsPresent c (p ++ q) → IsPresent c p
item_closed names all b c e [] q fit top closed h = ap is_some top
item_closed names all b c e (g ∷ p) q (ks, is, fit, (f, named, free, fits_f)) top closed h = struct_closed all c g p q closed (f, named, fits_f) h

mutual
  pub well_typed_closed : (s : Shape) (c : Content) → IsWellTyped s c → IsClosed s c
  well_typed_closed text c well_typed [] q fit h = no_mark_on_top text fit
  well_typed_closed text c well_typed (e ∷ p) q fit h = absurd fit
  well_typed_closed whole c well_typed [] q fit h = no_mark_on_top whole fit
  well_typed_closed whole c well_typed (e ∷ p) q fit h = absurd fit
  well_typed_closed truth c well_typed [] q fit h = no_mark_on_top truth fit
  well_typed_closed truth c well_typed (e ∷ p) q fit h = absurd fit
  well_typed_closed (struct_of all true) c well_typed [] q fit h = no_whole_mark (struct_of all true) fit
  well_typed_closed (struct_of all true) c well_typed (e ∷ p) q fit h = absurd fit
  well_typed_closed (struct_of all false) c well_typed [] q fit h = absurd fit
  well_typed_closed (struct_of all false) c well_typed (e ∷ p) q fit h = struct_closed all c e p q (fields_closed all c well_typed.1) fit h
  well_typed_closed (map_of s true) c well_typed [] q fit h = no_whole_mark (map_of s true) fit
  well_typed_closed (map_of s true) c well_typed (e ∷ p) q fit h = absurd fit
  well_typed_closed (map_of s false) c well_typed [] q fit h = absurd fit
  well_typed_closed (map_of s false) c well_typed (e ∷ p) q fit h = stands_outside e c p (well_typed_closed s (inside e c) (well_typed.1 e) p q fit.2 (stands_inside e c (p ++ q) h))
  well_typed_closed (list_of s atomic) c well_typed [] q fit h = no_whole_mark (list_of s atomic) fit
  well_typed_closed (list_of s atomic) c well_typed (e ∷ p) q fit h = absurd fit
  well_typed_closed (list_of s set) c well_typed [] q fit h = absurd fit
  well_typed_closed (list_of s set) c well_typed (e ∷ p) q fit h = set_closed s c e p q fit (well_typed.1 e) h
  well_typed_closed (list_of s (keyed names)) c well_typed [] q fit h = absurd fit
  well_typed_closed (list_of s (keyed names)) c well_typed (e ∷ p) q fit h = stands_outside e c p (items_closed names s (inside e c) e p q fit (well_typed.1 e) (stands_inside e c (p ++ q) h))

  items_closed : (names : List (List ℕ)) (s : Shape) (c : Content) (e : List ℕ) (p q : PathTexts) → FitsItem names s e p leaf_value.mark → (c ≡ nothing) ⊎ IsItem names s e c → IsPresent c (p ++ q) → IsPresent c p
  items_closed names s c e p q fit (inl none) h = absurd (none_there c (p ++ q) none h)
  items_closed names text c e p q fit (inr well_typed) h = absurd well_typed
  items_closed names whole c e p q fit (inr well_typed) h = absurd well_typed
  items_closed names truth c e p q fit (inr well_typed) h = absurd well_typed
  items_closed names (map_of s b) c e p q fit (inr well_typed) h = absurd well_typed
  items_closed names (list_of s kind) c e p q fit (inr well_typed) h = absurd well_typed
  items_closed names (struct_of all b) c e p q fit (inr ((ks, is, fit_ks, top, none, bare), well_typed)) h = item_closed names all b c e p q fit top (fields_closed all c well_typed) h

  fields_closed : (fs : Fields) (c : Content) → AreWellTyped fs c → FieldsAre IsClosed fs c
  fields_closed no_fields c well_typed = tt
  fields_closed (field f s more) c well_typed = ((λ p q fit h. well_typed_closed s (inside (name_text f) c) well_typed.0 p q fit h), fields_closed more c well_typed.1)

-- ---- from paths to levels

-- a content with nothing below its top
only_top : (c : Content) → ((e : List ℕ) (q : PathTexts) (v : LeafValue) → fin.get c (e ∷ q) ≡ Some v → ⊥) → (c ≡ nothing) ⊎ ((v : LeafValue) × (fin.get c [] ≡ Some v) × (c ≡ here v))
only_top c none = by_top (fin.get c []) refl
  where
    below_is : (d : Content) → ((e : List ℕ) (q : PathTexts) → fin.get d (e ∷ q) ≡ None) → fin.get c [] ≡ fin.get d [] → (p : PathTexts) → fin.get c p ≡ fin.get d p
    below_is d bare top [] = top
    below_is d bare top (e ∷ q) = no_value (fin.get c (e ∷ q)) (none e q) ∙ sym (bare e q)

    by_top : (o : Option LeafValue) → fin.get c [] ≡ o → (c ≡ nothing) ⊎ ((v : LeafValue) × (fin.get c [] ≡ Some v) × (c ≡ here v))
    by_top None top = inl (same c nothing (below_is nothing (λ e q. get-nothing (e ∷ q)) (top ∙ sym (get-nothing []))))
    by_top (Some v) top = inr (v, top, same c (here v) (below_is (here v) (get-here-below v) (top ∙ sym (get-here-top v))))

whole_well_typed : (s : Shape) (c : Content) → ((p : PathTexts) (v : LeafValue) → fin.get c p ≡ Some v → AtEnd p (IsWholeValue s v)) → IsAtomic s c
whole_well_typed s c fit = by_case (only_top c (λ e q v h. fit (e ∷ q) v h))
  where
    by_case : (c ≡ nothing) ⊎ ((v : LeafValue) × (fin.get c [] ≡ Some v) × (c ≡ here v)) → IsAtomic s c
    by_case (inl none) = inl none
    by_case (inr (v, top, is)) = let k = fit [] v top in inr (k.0, k.1, k.2, is ∙ sym k.3)

-- the first field of a name is the only one
abbrev Both : Type 0 → Type 0 → Type 0
Both A B = (A → B) × (B → A)

abbrev AllFit : Fields → Fields → Type 0
AllFit all no_fields = Unit {0}
AllFit all (field f s more) = ((q : PathTexts) (v : LeafValue) → Both (FitsField all f q v) (FitsAt s q v)) × AllFit all more

abbrev SameFor : Fields → Fields → List ℕ → Type 0
SameFor all fs k = (q : PathTexts) (v : LeafValue) → Both (FitsField all k q v) (FitsField fs k q v)

all_fit : (all fs : Fields) → AreRising (names_of fs) → ((k : List ℕ) → list_any (bytes_eq k) (names_of fs) ≡ true → SameFor all fs k) → AllFit all fs
all_fit all no_fields rise like = tt
all_fit all (field f s more) rise like = (
  (λ q v. first q v (like f (one_so (bytes_eq f f) (list_any (bytes_eq f) (names_of more)) (itself f)) q v)),
  all_fit all more rise.1 (λ k t q v. by_test k q v (like k (other_so (bytes_eq k f) (list_any (bytes_eq k) (names_of more)) t) q v) (bytes_eq f k) refl t),
)
  where
    first : (q : PathTexts) (v : LeafValue) → Both (FitsField all f q v) (FitsField (field f s more) f q v) → Both (FitsField all f q v) (FitsAt s q v)
    first q v k =
        let found = subst (λ t. Both (FitsField all f q v) (When t (FitsAt s q v) (FitsField more f q v))) (itself f) k in (found.0, found.1)

    not_above : (k : List ℕ) (ns : List (List ℕ)) → f ≡ k → AllByRecursion (λ m. slice_cmp nat_cmp f m ≡ Less) ns → list_any (bytes_eq k) ns ≡ false
    not_above k [] is above = refl
    not_above k (n ∷ ns) is above = ap₂ (λ a b. a || b) (sym (is_eq-slice_cmp k n) ∙ ap (λ x. is_eq (slice_cmp nat_cmp x n)) (sym is) ∙ ap is_eq above.0) (not_above k ns is above.1)

    by_test : (k : List ℕ) (q : PathTexts) (v : LeafValue) → Both (FitsField all k q v) (FitsField (field f s more) k q v) → (b : Bool) → bytes_eq f k ≡ b → list_any (bytes_eq k) (names_of more) ≡ true
        → Both (FitsField all k q v) (FitsField more k q v)
    by_test k q v found true is t = absurd (true≢false (sym t ∙ not_above k (names_of more) ((bytes_eq-Decides f k).0 is) rise.0))
    by_test k q v found false is t = subst (λ b. Both (FitsField all k q v) (When b (FitsAt s q v) (FitsField more k q v))) is found

same_for : (all : Fields) (k : List ℕ) → SameFor all all k
same_for all k q v = ((λ x. x), λ x. x)

field_known : (fs : Fields) (f : List ℕ) (q : PathTexts) (v : LeafValue) → FitsField fs f q v → is_field fs (name_text f) ≡ true
field_known no_fields f q v fit = absurd fit
field_known (field known s more) f q v fit = by_name (bytes_eq known f) refl fit (field_known more f q v)
  where
    by_name : (b : Bool) → bytes_eq known f ≡ b → When b (FitsAt s q v) (FitsField more f q v) → (FitsField more f q v → is_field more (name_text f) ≡ true) → (bytes_eq (name_text f) (name_text known) || is_field more (name_text f)) ≡ true
    by_name true is fit later = one_so (bytes_eq (name_text f) (name_text known)) (is_field more (name_text f)) (ap (λ l. bytes_eq (name_text f) (name_text l)) ((bytes_eq-Decides known f).0 is) ∙ itself (name_text f))
    by_name false is fit later = other_so (bytes_eq (name_text f) (name_text known)) (is_field more (name_text f)) (later fit)

-- what a content of a struct has at each of its fields
abbrev FieldsFit : Fields → Content → Type 0
FieldsFit all c = (f : List ℕ) (q : PathTexts) (v : LeafValue) → fin.get c (name_text f ∷ q) ≡ Some v → FitsField all f q v

abbrev FieldsClose : Fields → Content → Type 0
FieldsClose all c = (f : List ℕ) (p q : PathTexts) → FitsField all f p leaf_value.mark → IsPresent c (name_text f ∷ p ++ q) → IsPresent c (name_text f ∷ p)

abbrev Levels : Shape → Type 0
Levels s = (c : Content) → IsContent s c → IsWellTyped s c

abbrev AllLevels : Fields → Type 0
AllLevels no_fields = Unit {0}
AllLevels (field f s more) = Levels s × AllLevels more

fields_well_typed : (all fs : Fields) (c : Content) → AllFit all fs → AllLevels fs → FieldsFit all c → FieldsClose all c → AreWellTyped fs c
fields_well_typed all no_fields c found levels fit close = tt
fields_well_typed all (field f s more) c found levels fit close = (
  levels.0 (inside (name_text f) c) (
    (λ q v h. (found.0 q v).0 (fit f q v (at_inside (name_text f) c q v h))),
    λ p q fits_p h. stands_inside (name_text f) c p (close f p q ((found.0 p leaf_value.mark).1 fits_p) (stands_outside (name_text f) c (p ++ q) h)),
  ),
  fields_well_typed all more c found.1 levels.1 fit close,
)

only_these : (all : Fields) (c : Content) → ((e : List ℕ) (q : PathTexts) (v : LeafValue) → fin.get c (e ∷ q) ≡ Some v → FieldOf all e q v) → (e : List ℕ) (q : PathTexts) → is_field all e ≡ false → fin.get c (e ∷ q) ≡ None
only_these all c fit e q apart = no_value (fin.get c (e ∷ q)) (λ v h. let k = fit e q v h in true≢false (sym (ap (is_field all) k.1 ∙ field_known all k.0 q v k.2) ∙ apart))

fields_of : (all : Fields) (c : Content) → ((e : List ℕ) (q : PathTexts) (v : LeafValue) → fin.get c (e ∷ q) ≡ Some v → FieldOf all e q v) → FieldsFit all c
fields_of all c fit f q v h = let k = fit (name_text f) q v h in subst (λ g. FitsField all g q v) (sym (same_name f k.0 k.1)) k.2

struct_well_typed : (all : Fields) (c : Content) → AreRising (names_of all) → AllLevels all → IsContent (struct_of all false) c → IsWellTyped (struct_of all false) c
struct_well_typed all c rise levels (fit, closed) = (
  (no_value (fin.get c []) (λ v h. fit [] v h), only_these all c (λ e q v h. fit (e ∷ q) v h)),
  fields_well_typed all all c (all_fit all all rise (λ k t. same_for all k)) levels (fields_of all c (λ e q v h. fit (e ∷ q) v h)) (λ f p q fits_p h. closed (name_text f ∷ p) q (f, refl, fits_p) h),
)

map_well_typed : (s : Shape) (c : Content) → Levels s → IsContent (map_of s false) c → IsWellTyped (map_of s false) c
map_well_typed s c levels (fit, closed) = (
  (no_value (fin.get c []) (λ v h. fit [] v h), none),
  λ e. levels (inside e c) (
    (λ q v h. (fit (e ∷ q) v (at_inside e c q v h)).2),
    λ p q fits_p h. let there = stands_outside e c (p ++ q) h in let w = some_is (fin.get c (e ∷ p ++ q)) there in let k = fit (e ∷ p ++ q) w.0 w.1 in
        stands_inside e c p (closed (e ∷ p) q (k.0, k.1, fits_p) there),
  ),
)
  where
    none : (e : List ℕ) (q : PathTexts) → has_prefix 102 e ≡ false → fin.get c (e ∷ q) ≡ None
    none e q apart = no_value (fin.get c (e ∷ q)) (λ v h. let k = fit (e ∷ q) v h in true≢false (sym (ap (has_prefix 102) k.1 ∙ prefix_of_name k.0) ∙ apart))

set_well_typed : (s : Shape) (c : Content) → IsContent (list_of s set) c → IsWellTyped (list_of s set) c
set_well_typed s c (fit, closed) = (no_value (fin.get c []) (λ v h. fit [] v h), λ e. by_case e (only_top (inside e c) (λ g q v h. (fit (e ∷ g ∷ q) v (at_inside e c (g ∷ q) v h)).3)))
  where
    by_case : (e : List ℕ) → (inside e c ≡ nothing) ⊎ ((v : LeafValue) × (fin.get (inside e c) [] ≡ Some v) × (inside e c ≡ here v)) → (inside e c ≡ nothing) ⊎ IsSetItem s e (inside e c)
    by_case e (inl none) = inl none
    by_case e (inr (v, top, is)) = let k = fit (e ∷ []) v (at_inside e c [] v top) in inr (k.0, k.1, k.2, is ∙ ap here k.3)

-- nothing inside an element
bare_inside : (e : List ℕ) (c : Content) → ((q : PathTexts) (v : LeafValue) → fin.get c (e ∷ q) ≡ Some v → ⊥) → inside e c ≡ nothing
bare_inside e c none = same (inside e c) nothing (λ q. get-inside e c q ∙ no_value (fin.get c (e ∷ q)) (none q) ∙ sym (get-nothing q))

module _ (names : List (List ℕ)) (all : Fields) (b : Bool) (rise : AreRising (names_of all)) (levels : AllLevels all) (c : Content) (fit : FitsAll (list_of (struct_of all b) (keyed names)) c)
    (closed : IsClosed (list_of (struct_of all b) (keyed names)) c) (e : List ℕ) where
  item_of : (g : List ℕ) (r : PathTexts) (v : LeafValue) → fin.get (inside e c) (g ∷ r) ≡ Some v → FieldOf all g r v
  item_of g r v h = let k = fit (e ∷ g ∷ r) v (at_inside e c (g ∷ r) v h) in (k.3.0, k.3.1, k.3.3)

  keys_bare : (f : List ℕ) → list_any (bytes_eq f) names ≡ true → inside (name_text f) (inside e c) ≡ nothing
  keys_bare f t = bare_inside (name_text f) (inside e c) (λ q v h.
      let k = fit (e ∷ name_text f ∷ q) v (at_inside e c (name_text f ∷ q) v h) in true≢false (sym t ∙ ap (λ g. list_any (bytes_eq g) names) (same_name f k.3.0 k.3.1) ∙ k.3.2))

  item_close : FieldsClose all (inside e c)
  item_close f p q fits_p h =
      let there = stands_outside e c (name_text f ∷ p ++ q) h in
      let w = some_is (fin.get c (e ∷ name_text f ∷ p ++ q)) there in
      let k = fit (e ∷ name_text f ∷ p ++ q) w.0 w.1 in
      let free = ap (λ g. list_any (bytes_eq g) names) (same_name f k.3.0 k.3.1) ∙ k.3.2 in
      stands_inside e c (name_text f ∷ p) (closed (e ∷ name_text f ∷ p) q (k.0, k.1, k.2, (f, refl, free, fits_p)) there)

  item_there : (v : LeafValue) → fin.get (inside e c) [] ≡ Some v → IsItem names (struct_of all b) e (inside e c)
  item_there v top =
      let k = fit (e ∷ []) v (at_inside e c [] v top) in (
        (k.0, k.1, k.2, top ∙ ap Some k.3, only_these all (inside e c) item_of, keys_bare),
        fields_well_typed all all (inside e c) (all_fit all all rise (λ n t. same_for all n)) levels (fields_of all (inside e c) item_of) item_close,
      )

  item_bare : fin.get (inside e c) [] ≡ None → inside e c ≡ nothing
  item_bare top = bare_inside e c (λ q v h.
      let k = fit (e ∷ q) v h in true≢false (sym (closed (e ∷ []) q (k.0, k.1, k.2, refl) (ap is_some h)) ∙ ap is_some (sym (get-inside e c []) ∙ top)))

  item_well_typed : (inside e c ≡ nothing) ⊎ IsItem names (struct_of all b) e (inside e c)
  item_well_typed = by_top (fin.get (inside e c) []) refl
    where
      by_top : (o : Option LeafValue) → fin.get (inside e c) [] ≡ o → (inside e c ≡ nothing) ⊎ IsItem names (struct_of all b) e (inside e c)
      by_top None top = inl (item_bare top)
      by_top (Some v) top = inr (item_there v top)

list_top : (names : List (List ℕ)) (s : Shape) (c : Content) → FitsAll (list_of s (keyed names)) c → fin.get c [] ≡ None
list_top names s c fit = no_value (fin.get c []) (λ v h. fit [] v h)

mutual
  pub content_well_typed : (s : Shape) → is_well_formed s ≡ true → Levels s
  content_well_typed text lawful c (fit, closed) = by_case (only_top c (λ e q v h. fit (e ∷ q) v h))
    where
      by_case : (c ≡ nothing) ⊎ ((v : LeafValue) × (fin.get c [] ≡ Some v) × (c ≡ here v)) → IsWellTyped text c
      by_case (inl none) = inl none
      by_case (inr (v, top, is)) = let k = fit [] v top in inr (k.0, is ∙ ap here k.1)
  content_well_typed whole lawful c (fit, closed) = by_case (only_top c (λ e q v h. fit (e ∷ q) v h))
    where
      by_case : (c ≡ nothing) ⊎ ((v : LeafValue) × (fin.get c [] ≡ Some v) × (c ≡ here v)) → IsWellTyped whole c
      by_case (inl none) = inl none
      by_case (inr (v, top, is)) = let k = fit [] v top in inr (k.0, k.1, is ∙ ap here k.2)
  content_well_typed truth lawful c (fit, closed) = by_case (only_top c (λ e q v h. fit (e ∷ q) v h))
    where
      by_case : (c ≡ nothing) ⊎ ((v : LeafValue) × (fin.get c [] ≡ Some v) × (c ≡ here v)) → IsWellTyped truth c
      by_case (inl none) = inl none
      by_case (inr (v, top, is)) = let k = fit [] v top in inr (k.0, is ∙ ap here k.1)
  content_well_typed (struct_of all true) lawful c (fit, closed) = whole_well_typed (struct_of all true) c fit
  content_well_typed (struct_of all false) lawful c content =
      let p = and_parts (ascend (names_of all)) (are_well_formed all) lawful in struct_well_typed all c (ascend_rising (names_of all) p.0) (all_levels all p.1) content
  content_well_typed (map_of s true) lawful c (fit, closed) = whole_well_typed (map_of s true) c fit
  content_well_typed (map_of s false) lawful c content = map_well_typed s c (content_well_typed s lawful) content
  content_well_typed (list_of s atomic) lawful c (fit, closed) = whole_well_typed (list_of s atomic) c fit
  content_well_typed (list_of s set) lawful c content = set_well_typed s c content
  content_well_typed (list_of s (keyed names)) lawful c content =
      let p = and_parts (item_is_lawful (keyed names) s) (is_well_formed s) lawful in (list_top names s c content.0, λ e. items_well_typed names s p.1 c content e)

  items_well_typed : (names : List (List ℕ)) (s : Shape) → is_well_formed s ≡ true → (c : Content) → IsContent (list_of s (keyed names)) c → (e : List ℕ) → (inside e c ≡ nothing) ⊎ IsItem names s e (inside e c)
  items_well_typed names text lawful c (fit, closed) e = inl (bare_inside e c (λ q v h. fit (e ∷ q) v h))
  items_well_typed names whole lawful c (fit, closed) e = inl (bare_inside e c (λ q v h. fit (e ∷ q) v h))
  items_well_typed names truth lawful c (fit, closed) e = inl (bare_inside e c (λ q v h. fit (e ∷ q) v h))
  items_well_typed names (map_of s b) lawful c (fit, closed) e = inl (bare_inside e c (λ q v h. fit (e ∷ q) v h))
  items_well_typed names (list_of s kind) lawful c (fit, closed) e = inl (bare_inside e c (λ q v h. fit (e ∷ q) v h))
  items_well_typed names (struct_of all b) lawful c (fit, closed) e =
      let p = and_parts (ascend (names_of all)) (are_well_formed all) lawful in item_well_typed names all b (ascend_rising (names_of all) p.0) (all_levels all p.1) c fit closed e

  all_levels : (all : Fields) → are_well_formed all ≡ true → AllLevels all
  all_levels no_fields lawful = tt
  all_levels (field f s more) lawful = let p = and_parts (is_well_formed s) (are_well_formed more) lawful in (content_well_typed s p.0, all_levels more p.1)

pub well_typed_content : (s : Shape) (c : Content) → IsWellTyped s c → IsContent s c
well_typed_content s c well_typed = (well_typed_fits s c well_typed, well_typed_closed s c well_typed)

pub contents_well_typed : ContentsAreWellTyped
contents_well_typed s c lawful = (content_well_typed s lawful c, well_typed_content s c)
