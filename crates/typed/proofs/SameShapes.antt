-- What a shape may become, part by part.
use Rattle.std.proofs.Common.{◌≡◌, ℕ, Bool, true, false, cond, ◌&&◌, ◌||◌, List, [], ◌∷◌, Option, Some, None, inl, inr, ◌⊎◌, refl, sym, ap, ap₂, ◌∙◌, true≢false, subst}
use Rattle.std.specs.Bool.{beq}
use Rattle.std.specs.Cmp.{both_ways}
use Rattle.std.specs.List.{list_any}
use Rattle.std.specs.List.Sorted.{IsStrictlySortedBy}
use Rattle.std.specs.Str.{bytes_eq}
use Rattle.std.proofs.lemmas.Bool.{and_parts}
use Rattle.std.proofs.lemmas.Slice.Eq.{bytes_eq-Decides}
use Rattle.pathmap.proofs.Heads.{Rises, one_rising}
use Rattle.fieldpath.specs.Elements.{Scalar, KeyFields}
use Rattle.fieldpath.specs.Scalars.{ascend}
use Rattle.schema.specs.Lawful.{names_of, item_is_lawful, has_keys, is_scalar, is_some_name, is_well_formed, are_well_formed}
use Rattle.schema.specs.Place.{fits, fits_some, fit_keys}
use Rattle.schema.specs.Shape.{Kind, atomic, set, keyed, Shape, text, whole, truth, struct_of, map_of, list_of, Fields, no_fields, field, shape_at}
use Rattle.schema.specs.Becoming.{are_among, becomes, fields_become, is_same_kind, may_become}
use Rattle.schema.specs.Becoming as becoming
use Rattle.typed.proofs.KeyFields.{AreRising, ascend_rising}

-- ---- key names

among_any : (names others : List (List ℕ)) → are_among names others ≡ true → (g : List ℕ) → list_any (bytes_eq g) names ≡ true → list_any (bytes_eq g) others ≡ true
among_any [] others h g t = absurd (true≢false (sym t))
among_any (n ∷ ns) others h g t =
    let parts = and_parts (list_any (bytes_eq n) others) (are_among ns others) h in by_test (bytes_eq g n) refl parts.0 (among_any ns others parts.1 g) t
  where
    by_test : (b : Bool) → bytes_eq g n ≡ b → list_any (bytes_eq n) others ≡ true → (list_any (bytes_eq g) ns ≡ true → list_any (bytes_eq g) others ≡ true) → (b || list_any (bytes_eq g) ns) ≡ true → list_any (bytes_eq g) others ≡ true
    by_test true is first later t = ap (λ m. list_any (bytes_eq m) others) ((bytes_eq-Decides g n).0 is) ∙ first
    by_test false is first later t = later t

rises : (ns : List (List ℕ)) → AreRising ns → Rises ns
unfolding IsStrictlySortedBy
rises [] h = tt
rises (n ∷ ns) h = (h.0, rises ns h.1)

pub names_same : (names others : List (List ℕ)) → ascend names ≡ true → ascend others ≡ true → (are_among names others && are_among others names) ≡ true → names ≡ others
names_same names others up over h =
    let parts = and_parts (are_among names others) (are_among others names) h in
    one_rising names others (rises names (ascend_rising names up)) (rises others (ascend_rising others over))
    (λ g. both_ways (list_any (bytes_eq g) names) (list_any (bytes_eq g) others) (among_any names others parts.0 g) (among_any others names parts.1 g))

-- ---- kinds of lists

pub keyed_ascend : (names : List (List ℕ)) (s : Shape) → item_is_lawful (keyed names) s ≡ true → ascend names ≡ true
keyed_ascend names s h = (and_parts (is_some_name names) (ascend names) (and_parts (is_some_name names && ascend names) (has_keys names s) h).0).1

pub kind_same : (k l : Kind) (s t : Shape) → item_is_lawful k s ≡ true → item_is_lawful l t ≡ true → is_same_kind k l ≡ true → k ≡ l
kind_same atomic atomic s t a b h = refl
kind_same atomic set s t a b h = absurd (true≢false (sym h))
kind_same atomic (keyed others) s t a b h = absurd (true≢false (sym h))
kind_same set atomic s t a b h = absurd (true≢false (sym h))
kind_same set set s t a b h = refl
kind_same set (keyed others) s t a b h = absurd (true≢false (sym h))
kind_same (keyed names) atomic s t a b h = absurd (true≢false (sym h))
kind_same (keyed names) set s t a b h = absurd (true≢false (sym h))
kind_same (keyed names) (keyed others) s t a b h = ap keyed (names_same names others (keyed_ascend names s a) (keyed_ascend others t b) h)

-- ---- where nothing rises, shapes are the same

bool_same : (a b : Bool) → beq a b ≡ true → a ≡ b
bool_same true true h = refl
bool_same true false h = absurd (true≢false (sym h))
bool_same false true h = absurd (true≢false (sym h))
bool_same false false h = refl

-- a test that holds of one of two, or of the other
pub either_so : (P : Type 0) (b x y : Bool) → cond b x y ≡ true → (b ≡ true → x ≡ true → P) → (y ≡ true → P) → P
either_so P true x y h left right = left refl h
either_so P false x y h left right = right h

pub never : {P : Type 0} → false ≡ true → P
never h = absurd (true≢false (sym h))

mutual
  pub same_shape : (s t : Shape) → is_well_formed s ≡ true → is_well_formed t ≡ true → becomes false s t ≡ true → s ≡ t
  same_shape text text a b h = refl
  same_shape text whole a b h = never h
  same_shape text truth a b h = never h
  same_shape text (struct_of others is) a b h = never h
  same_shape text (map_of t is) a b h = never h
  same_shape text (list_of t kind) a b h = never h
  same_shape whole text a b h = never h
  same_shape whole whole a b h = refl
  same_shape whole truth a b h = never h
  same_shape whole (struct_of others is) a b h = never h
  same_shape whole (map_of t is) a b h = never h
  same_shape whole (list_of t kind) a b h = never h
  same_shape truth text a b h = never h
  same_shape truth whole a b h = never h
  same_shape truth truth a b h = refl
  same_shape truth (struct_of others is) a b h = never h
  same_shape truth (map_of t is) a b h = never h
  same_shape truth (list_of t kind) a b h = never h
  same_shape (struct_of all was) text a b h = never h
  same_shape (struct_of all was) whole a b h = never h
  same_shape (struct_of all was) truth a b h = never h
  same_shape (struct_of all was) (struct_of others is) a b h =
      let parts = and_parts (beq was is) (fields_become false all others) h in
      ap₂ struct_of (same_fields all others (and_parts (ascend (names_of all)) (are_well_formed all) a).1 (and_parts (ascend (names_of others)) (are_well_formed others) b).1 parts.1) (bool_same was is parts.0)
  same_shape (struct_of all was) (map_of t is) a b h = never h
  same_shape (struct_of all was) (list_of t kind) a b h = never h
  same_shape (map_of s was) text a b h = never h
  same_shape (map_of s was) whole a b h = never h
  same_shape (map_of s was) truth a b h = never h
  same_shape (map_of s was) (struct_of others is) a b h = never h
  same_shape (map_of s was) (map_of t is) a b h =
      let inner = same_shape s t a b in
      either_so (map_of s was ≡ map_of t is) (beq was is) (becomes false s t) false h (λ same later. ap₂ map_of (inner later) (bool_same was is same)) never
  same_shape (map_of s was) (list_of t kind) a b h = never h
  same_shape (list_of s was) text a b h = never h
  same_shape (list_of s was) whole a b h = never h
  same_shape (list_of s was) truth a b h = never h
  same_shape (list_of s was) (struct_of others is) a b h = never h
  same_shape (list_of s was) (map_of t is) a b h = never h
  same_shape (list_of s was) (list_of t is) a b h =
      let old = and_parts (item_is_lawful was s) (is_well_formed s) a in
      let new = and_parts (item_is_lawful is t) (is_well_formed t) b in
      let inner = same_shape s t old.1 new.1 in
      either_so (list_of s was ≡ list_of t is) (is_same_kind was is) (becomes false s t) false h (λ same later. ap₂ list_of (inner later) (kind_same was is s t old.0 new.0 same)) never

  same_fields : (fs gs : Fields) → are_well_formed fs ≡ true → are_well_formed gs ≡ true → fields_become false fs gs ≡ true → fs ≡ gs
  same_fields no_fields no_fields a b h = refl
  same_fields no_fields (field g t rest) a b h = never h
  same_fields (field f s more) no_fields a b h = never h
  same_fields (field f s more) (field g t rest) a b h =
      let named = and_parts (bytes_eq f g) (becomes false s t && fields_become false more rest) h in
      let parts = and_parts (becomes false s t) (fields_become false more rest) named.1 in
      let old = and_parts (is_well_formed s) (are_well_formed more) a in
      let new = and_parts (is_well_formed t) (are_well_formed rest) b in
      ap (λ n. field n s more) ((bytes_eq-Decides f g).0 named.0) ∙ ap₂ (field g) (same_shape s t old.0 new.0 parts.0) (same_fields more rest old.1 new.1 parts.1)

-- ---- a container stays, or it has become atomic

-- a map stays, or it has become atomic and its values are the same
abbrev pub MapTo : Bool → Bool → Bool → Shape → Shape → Type 0
MapTo r was is s t = ((was ≡ is) × (becomes r s t ≡ true)) ⊎ (was ≡ false) × (is ≡ true) × (s ≡ t)

pub map_to : (r was is : Bool) (s t : Shape) → is_well_formed s ≡ true → is_well_formed t ≡ true → becomes r (map_of s was) (map_of t is) ≡ true → MapTo r was is s t
map_to r true true s t a b h = inl (refl, h)
map_to r false false s t a b h = inl (refl, h)
map_to r true false s t a b h = never ((and_parts r false h).1)
map_to r false true s t a b h = inr (refl, refl, same_shape s t a b (and_parts r (becomes false s t) h).1)

-- so does a list
abbrev pub ListTo : Bool → Kind → Kind → Shape → Shape → Type 0
ListTo r was is s t = ((was ≡ is) × (becomes r s t ≡ true)) ⊎ (is ≡ atomic) × (s ≡ t)

atomic_is : (k : Kind) (x : Bool) → (becoming.is_atomic k && x) ≡ true → k ≡ atomic
atomic_is atomic x h = refl
atomic_is set x h = never h
atomic_is (keyed names) x h = never h

pub list_to : (r : Bool) (was is : Kind) (s t : Shape) → is_well_formed (list_of s was) ≡ true → is_well_formed (list_of t is) ≡ true → becomes r (list_of s was) (list_of t is) ≡ true → ListTo r was is s t
list_to r was is s t a b h =
    let old = and_parts (item_is_lawful was s) (is_well_formed s) a in
    let new = and_parts (item_is_lawful is t) (is_well_formed t) b in
    either_so (ListTo r was is s t) (is_same_kind was is) (becomes r s t) (r && (becoming.is_atomic is && becomes false s t)) h
    (λ same later. inl (kind_same was is s t old.0 new.0 same, later))
    (λ risen. let parts = and_parts r (becoming.is_atomic is && becomes false s t) risen in
    inr (atomic_is is (becomes false s t) parts.1, same_shape s t old.1 new.1 (and_parts (becoming.is_atomic is) (becomes false s t) parts.1).1))

-- ---- scalars

scalar_becomes : (s t : Shape) → is_scalar s ≡ true → becomes true s t ≡ true → becomes false s t ≡ true
scalar_becomes text t h b = b
scalar_becomes whole t h b = b
scalar_becomes truth t h b = b
scalar_becomes (struct_of all was) t h b = never h
scalar_becomes (map_of s was) t h b = never h
scalar_becomes (list_of s was) t h b = never h

pub scalar_same : (s t : Shape) → is_well_formed s ≡ true → is_well_formed t ≡ true → is_scalar s ≡ true → becomes true s t ≡ true → s ≡ t
scalar_same s t a b h to = same_shape s t a b (scalar_becomes s t h to)

-- ---- fields by their names

-- both there, and the one may become the other; or neither
abbrev pub Both : Option Shape → Option Shape → Type 0
Both None None = Unit {0}
Both None (Some t) = ⊥
Both (Some s) None = ⊥
Both (Some s) (Some t) = (becomes true s t ≡ true) × (is_well_formed s ≡ true) × (is_well_formed t ≡ true)

pub both_at : (fs gs : Fields) → are_well_formed fs ≡ true → are_well_formed gs ≡ true → fields_become true fs gs ≡ true → (k : List ℕ) → Both (shape_at k fs) (shape_at k gs)
both_at no_fields no_fields a b h k = tt
both_at no_fields (field g t rest) a b h k = never h
both_at (field f s more) no_fields a b h k = never h
both_at (field f s more) (field g t rest) a b h k =
    let named = and_parts (bytes_eq f g) (becomes true s t && fields_become true more rest) h in
    let parts = and_parts (becomes true s t) (fields_become true more rest) named.1 in
    let old = and_parts (is_well_formed s) (are_well_formed more) a in
    let new = and_parts (is_well_formed t) (are_well_formed rest) b in
    subst (λ n. Both (shape_at k (field f s more)) (shape_at k (field n t rest))) ((bytes_eq-Decides f g).0 named.0)
    (by_test (bytes_eq f k) (parts.0, old.0, new.0) (both_at more rest old.1 new.1 parts.1 k))
  where
    by_test : (b : Bool) → Both (Some s) (Some t) → Both (shape_at k more) (shape_at k rest) → Both (cond b (Some s) (shape_at k more)) (cond b (Some t) (shape_at k rest))
    by_test true here later = here
    by_test false here later = later

pub names_stay : (fs gs : Fields) → fields_become true fs gs ≡ true → names_of fs ≡ names_of gs
names_stay no_fields no_fields h = refl
names_stay no_fields (field g t rest) h = never h
names_stay (field f s more) no_fields h = never h
names_stay (field f s more) (field g t rest) h =
    let named = and_parts (bytes_eq f g) (becomes true s t && fields_become true more rest) h in
    ap₂ (λ n ns. n ∷ ns) ((bytes_eq-Decides f g).0 named.0) (names_stay more rest (and_parts (becomes true s t) (fields_become true more rest) named.1).1)

-- the same scalars fit
fits_same : (s t : Shape) → is_well_formed s ≡ true → is_well_formed t ≡ true → becomes true s t ≡ true → (v : Scalar) → fits s v ≡ fits t v
fits_same text t a b h v = ap (λ u. fits u v) (same_shape text t a b h)
fits_same whole t a b h v = ap (λ u. fits u v) (same_shape whole t a b h)
fits_same truth t a b h v = ap (λ u. fits u v) (same_shape truth t a b h)
fits_same (struct_of all was) text a b h v = never h
fits_same (struct_of all was) whole a b h v = never h
fits_same (struct_of all was) truth a b h v = never h
fits_same (struct_of all was) (struct_of others is) a b h v = refl
fits_same (struct_of all was) (map_of t is) a b h v = never h
fits_same (struct_of all was) (list_of t is) a b h v = never h
fits_same (map_of s was) text a b h v = never h
fits_same (map_of s was) whole a b h v = never h
fits_same (map_of s was) truth a b h v = never h
fits_same (map_of s was) (struct_of others is) a b h v = never h
fits_same (map_of s was) (map_of t is) a b h v = refl
fits_same (map_of s was) (list_of t is) a b h v = never h
fits_same (list_of s was) text a b h v = never h
fits_same (list_of s was) whole a b h v = never h
fits_same (list_of s was) truth a b h v = never h
fits_same (list_of s was) (struct_of others is) a b h v = never h
fits_same (list_of s was) (map_of t is) a b h v = never h
fits_same (list_of s was) (list_of t is) a b h v = refl

some_fits : (o p : Option Shape) (v : Scalar) → Both o p → fits_some o v ≡ fits_some p v
some_fits None None v both = refl
some_fits None (Some t) v both = absurd both
some_fits (Some s) None v both = absurd both
some_fits (Some s) (Some t) v both = fits_same s t both.1 both.2 both.0 v

pub keys_fit_same : (all others : Fields) → ((k : List ℕ) → Both (shape_at k all) (shape_at k others)) → (names : List (List ℕ)) (ks : KeyFields) → fit_keys names all ks ≡ fit_keys names others ks
keys_fit_same all others both [] [] = refl
keys_fit_same all others both [] (k ∷ ks) = refl
keys_fit_same all others both (n ∷ ns) [] = refl
keys_fit_same all others both (n ∷ ns) (k ∷ ks) =
    ap₂ (λ a b. a && b) (ap (λ b. bytes_eq n k.0 && b) (some_fits (shape_at n all) (shape_at n others) k.1 (both n))) (keys_fit_same all others both ns ks)
