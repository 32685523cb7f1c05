-- Members and items of an atomic value, one after another.
use Rattle.std.specs.Ordering.{ordering_reverse}
use Rattle.std.specs.Cmp.Lexicographic.{slice_cmp}
use Rattle.std.specs.List.{AllByRecursion}
use Rattle.std.specs.List.Sorted.{IsStrictlySortedBy}
use Rattle.std.specs.Map.{keys_of}
use Rattle.std.proofs.lemmas.Cmp.{nat_list_cmp_total}
use Rattle.std.proofs.lemmas.Map.Keys.{sorted_head, sorted_tail}
use Rattle.std.proofs.Common.{nat_cmp, string_cmp, Less, Greater, ◌≡◌, ℕ, ◌+◌, ◌<◌, Bool, true, false, cond, List, [], ◌∷◌, ◌++◌, length, drop, get_or, drop-cons, add-one, map, Ok, Err, String, Global, string_bytes, refl, sym, ap, ap₂, subst, ◌∙◌}
use Rattle.std.specs.Str.{bytes_eq}
use Rattle.serde_json.specs.Data.{Data, Items, no_items, item, Members, no_members, member, put}
use Rattle.serde_json.specs.View.{view, items_of, items_view, members_view}
use Rattle.serde_json.specs.declared.value.Value.{Value}
use Rattle.schema.specs.Shape.{shape, fields_in}
use Rattle.schema.specs.declared.schema.Schema.{Schema}
use Rattle.typed.specs.declared.fault.ReadFault.{ReadFault}
use Rattle.typed.specs.Faults.{Read, ReportsFault, fault_in, below, and_then, shown_name, shown_place}
use Rattle.typed.specs.Reading.{is_null, plain_members, plain_items, plain_of, plain_of_field}
use Rattle.typed.proofs.Faults.{reports-and_then, reports-within}

abbrev pub Entry : Type 0
Entry = String Global × Value

-- ---- members

abbrev pub members_after : Members → Members → Members
members_after no_members ms = ms
members_after (member k d more) ms = member k d (members_after more ms)

abbrev pub AreBelow : Members → List ℕ → Type 0
AreBelow no_members k = Unit {0}
AreBelow (member l e ms) k = (slice_cmp nat_cmp k l ≡ Greater) × AreBelow ms k

pub members_after-none : (ms : Members) → members_after ms no_members ≡ ms
members_after-none no_members = refl
members_after-none (member k d ms) = ap (member k d) (members_after-none ms)

pub members_after-after : (ms ns more : Members) → members_after (members_after ms ns) more ≡ members_after ms (members_after ns more)
members_after-after no_members ns more = refl
members_after-after (member k d ms) ns more = ap (member k d) (members_after-after ms ns more)

pub put_last : (ms : Members) (k : List ℕ) (d : Data) → AreBelow ms k → put k d ms ≡ members_after ms (member k d no_members)
put_last no_members k d h = refl
put_last (member l e ms) k d h = rw (h.0) (ap (member l e) (put_last ms k d h.1))

pub still_below : (ms : Members) (k l : List ℕ) (d : Data) → AreBelow ms l → slice_cmp nat_cmp l k ≡ Greater → AreBelow (members_after ms (member k d no_members)) l
still_below no_members k l d h above = (above, tt)
still_below (member m e ms) k l d h above = (h.0, still_below ms k l d h.1 above)

-- the members so far are below each that is left
abbrev pub AreBefore : Members → List Entry → Type 0
AreBefore ms it = AllByRecursion (λ e. AreBelow ms (string_bytes e.0)) it

pub before_all : (es it : List Entry) → es ≡ [] → AreBefore (members_view es) it
before_all es [] none = tt
before_all es (e ∷ it) none = (rw none tt, before_all es it none)

all_below : (k : String Global) (ms : Members) (d : Data) (left : List Entry) → AllByRecursion (λ y. string_cmp k y ≡ Less) (keys_of left) → AreBefore ms left → AreBefore (members_after ms (member (string_bytes k) d no_members)) left
all_below k ms d [] above h = tt
all_below k ms d (e ∷ left) above h =
    (still_below ms (string_bytes k) (string_bytes e.0) d h.0 (nat_list_cmp_total.antisymm (string_bytes e.0) (string_bytes k) ∙ ap ordering_reverse above.0), all_below k ms d left above.1 h.1)

below-nothing : {X : Type 0} (r : Read X) → below [] (λ x. x) r ≡ r
below-nothing (Ok x) = refl
below-nothing (Err e) = refl

pub begun : (inner : List ℕ → Data → Read Data) (ns es all : List Entry) → ns ≡ [] → es ≡ all
    → below [] (members_after (members_view ns)) (plain_members inner (members_view es)) ≡ plain_members inner (members_view all)
begun inner ns es all none is = ap₂ (λ l m. below [] (members_after (members_view l)) (plain_members inner (members_view m))) none is ∙ below-nothing (plain_members inner (members_view all))

pub ended : (inner : List ℕ → Data → Read Data) (done : Members) (it : List Entry) (whole : Read Members) → it ≡ [] → below [] (members_after done) (plain_members inner (members_view it)) ≡ whole → whole ≡ Ok done
ended inner done it whole none kept = sym kept ∙ ap (λ es. below [] (members_after done) (plain_members inner (members_view es))) none ∙ ap Ok (members_after-none done)

-- one more member of a list
module _ (inner : List ℕ → Data → Read Data) (done : Members) (it : List Entry) (e : Entry) (left : List Entry) (whole : Read Members) (steps : it ≡ e ∷ left)
    (kept : below [] (members_after done) (plain_members inner (members_view it)) ≡ whole) where
  next : (b : Bool) → is_null (view e.1) ≡ b
      → below [] (members_after done) (cond b (plain_members inner (members_view left)) (and_then (below (shown_name (string_bytes e.0)) (λ x. x) (inner (string_bytes e.0) (view e.1))) (λ x. below [] (member (string_bytes e.0) x) (plain_members inner (members_view left))))) ≡ whole
  next b is = ap (λ b. below [] (members_after done) (cond b (plain_members inner (members_view left)) (and_then (below (shown_name (string_bytes e.0)) (λ x. x) (inner (string_bytes e.0) (view e.1))) (λ x. below [] (member (string_bytes e.0) x) (plain_members inner (members_view left)))))) (sym is)
      ∙ sym (ap (λ es. below [] (members_after done) (plain_members inner (members_view es))) steps) ∙ kept

  pub passed : is_null (view e.1) ≡ true → below [] (members_after done) (plain_members inner (members_view left)) ≡ whole
  passed null = next true null

  module _ (k : List ℕ) (named : k ≡ string_bytes e.0) (has : is_null (view e.1) ≡ false) where
    there : below [] (members_after done) (and_then (below (shown_name k) (λ x. x) (inner k (view e.1))) (λ x. below [] (member k x) (plain_members inner (members_view left)))) ≡ whole
    there = ap (λ f. below [] (members_after done) (and_then (below (shown_name f) (λ x. x) (inner f (view e.1))) (λ x. below [] (member f x) (plain_members inner (members_view left))))) named ∙ next false has

    pub taken : (d : Data) (new : Members) → AreBelow done k → inner k (view e.1) ≡ Ok d → new ≡ put k d done → below [] (members_after new) (plain_members inner (members_view left)) ≡ whole
    taken d new last read is =
        ap (λ ms. below [] (members_after ms) (plain_members inner (members_view left))) (is ∙ put_last done k d last)
        ∙ longer (plain_members inner (members_view left))
        ∙ ap (λ r. below [] (members_after done) (and_then (below (shown_name k) (λ x. x) r) (λ x. below [] (member k x) (plain_members inner (members_view left))))) (sym read)
        ∙ there
      where
        longer : (r : Read Members) → below [] (members_after (members_after done (member k d no_members))) r ≡ below [] (members_after done) (below [] (member k d) r)
        longer (Ok ms) = ap Ok (members_after-after done (member k d no_members) ms)
        longer (Err f) = refl

    pub failed : (f : ReadFault) → ReportsFault f (fault_in (below (shown_name k) (λ x. x) (inner k (view e.1)))) → ReportsFault f (fault_in whole)
    failed f h = subst (λ r. ReportsFault f (fault_in r)) there (reports-within f (members_after done) _ (reports-and_then f _ _ h))

module _ (it : List Entry) (e : Entry) (left : List Entry) (steps : it ≡ e ∷ left) (sorted : IsStrictlySortedBy string_cmp (keys_of it)) where
  sorted_it : IsStrictlySortedBy string_cmp (keys_of (e ∷ left))
  sorted_it = subst (λ es. IsStrictlySortedBy string_cmp (keys_of es)) steps sorted

  pub left_sorted : IsStrictlySortedBy string_cmp (keys_of left)
  left_sorted = sorted_tail string_cmp e.0 (keys_of left) sorted_it

  module _ (done : Members) (before : AreBefore done it) where
    pub first_below : (k : List ℕ) → k ≡ string_bytes e.0 → AreBelow done k
    first_below k named = subst (AreBelow done) (sym named) (subst (AreBefore done) steps before).0

    pub before_left : AreBefore done left
    before_left = (subst (AreBefore done) steps before).1

    pub before_left_too : (k : List ℕ) (d : Data) (new : Members) → k ≡ string_bytes e.0 → new ≡ put k d done → AreBefore new left
    before_left_too k d new named is =
        subst (λ ms. AreBefore ms left) (sym (is ∙ put_last done k d (first_below k named) ∙ ap (λ f. members_after done (member f d no_members)) named))
        (all_below e.0 done d left (sorted_head string_cmp e.0 (keys_of left) sorted_it) before_left)

-- ---- items

abbrev pub items_after : List Data → Items → Items
items_after [] more = more
items_after (d ∷ ds) more = item d (items_after ds more)

items_after-none : (ds : List Data) → items_after ds no_items ≡ items_of ds
items_after-none [] = refl
items_after-none (d ∷ ds) = ap (item d) (items_after-none ds)

items_after-push : (ds : List Data) (d : Data) (more : Items) → items_after (ds ++ d ∷ []) more ≡ items_after ds (item d more)
items_after-push [] d more = refl
items_after-push (x ∷ ds) d more = ap (item x) (items_after-push ds d more)

pub items_begun : (inner : Data → Read Data) (ns all : List Value) → ns ≡ [] → below [] (items_after (map view ns)) (plain_items inner 0 (items_view all)) ≡ plain_items inner 0 (items_view all)
items_begun inner ns all none = ap (λ l. below [] (items_after (map view l)) (plain_items inner 0 (items_view all))) none ∙ below-nothing (plain_items inner 0 (items_view all))

-- one more item of a list
module _ (inner : Data → Read Data) (done : List Data) (all : List Value) (i : ℕ) (v : Value) (lt : i < length all) (whole : Read Items)
    (kept : below [] (items_after done) (plain_items inner i (items_view (drop i all))) ≡ whole) where
  items_next : below [] (items_after done) (and_then (below (shown_place i) (λ x. x) (inner (view (get_or all i v)))) (λ x. below [] (item x) (plain_items inner (i + 1) (items_view (drop (i + 1) all))))) ≡ whole
  items_next = rw add-one (sym (ap (λ l. below [] (items_after done) (plain_items inner i (items_view l))) (drop-cons all i v lt)) ∙ kept)

  module _ (is : v ≡ get_or all i v) where
    items_there : below [] (items_after done) (and_then (below (shown_place i) (λ x. x) (inner (view v))) (λ x. below [] (item x) (plain_items inner (i + 1) (items_view (drop (i + 1) all))))) ≡ whole
    items_there = ap (λ w. below [] (items_after done) (and_then (below (shown_place i) (λ x. x) (inner (view w))) (λ x. below [] (item x) (plain_items inner (i + 1) (items_view (drop (i + 1) all)))))) is ∙ items_next

    pub items_taken : (d : Data) (new : List Data) → inner (view v) ≡ Ok d → new ≡ done ++ d ∷ [] → below [] (items_after new) (plain_items inner (i + 1) (items_view (drop (i + 1) all))) ≡ whole
    items_taken d new read pushed =
        ap (λ ds. below [] (items_after ds) (plain_items inner (i + 1) (items_view (drop (i + 1) all)))) pushed
        ∙ longer (plain_items inner (i + 1) (items_view (drop (i + 1) all)))
        ∙ ap (λ r. below [] (items_after done) (and_then (below (shown_place i) (λ x. x) r) (λ x. below [] (item x) (plain_items inner (i + 1) (items_view (drop (i + 1) all)))))) (sym read)
        ∙ items_there
      where
        longer : (r : Read Items) → below [] (items_after (done ++ d ∷ [])) r ≡ below [] (items_after done) (below [] (item d) r)
        longer (Ok ds) = ap Ok (items_after-push done d ds)
        longer (Err f) = refl

    pub items_failed : (f : ReadFault) → ReportsFault f (fault_in (below (shown_place i) (λ x. x) (inner (view v)))) → ReportsFault f (fault_in whole)
    items_failed f h = subst (λ r. ReportsFault f (fault_in r)) items_there (reports-within f (items_after done) _ (reports-and_then f _ _ h))

pub items_ended : (inner : Data → Read Data) (done : List Data) (all : List Value) (i : ℕ) (whole : Read Items) → drop i all ≡ [] → below [] (items_after done) (plain_items inner i (items_view (drop i all))) ≡ whole → whole ≡ Ok (items_of done)
items_ended inner done all i whole none kept = sym kept ∙ ap (λ l. below [] (items_after done) (plain_items inner i (items_view l))) none ∙ ap Ok (items_after-none done)

-- ---- fields

one_field : (f : List ℕ) (d : Data) (fs : List (String Global × Schema)) (i : ℕ) (x : String Global × Schema) → i < length fs
    → plain_of_field (fields_in (drop i fs)) f d ≡ cond (bytes_eq (string_bytes (get_or fs i x).0) f) (plain_of (shape (get_or fs i x).1) d) (plain_of_field (fields_in (drop (i + 1) fs)) f d)
one_field f d fs i x lt = rw add-one (ap (λ l. plain_of_field (fields_in l) f d) (drop-cons fs i x lt))

module _ (f : List ℕ) (d : Data) (fs : List (String Global × Schema)) (i : ℕ) (x : String Global × Schema) (lt : i < length fs) (is : x ≡ get_or fs i x) where
  pub here : bytes_eq (string_bytes x.0) f ≡ true → plain_of_field (fields_in (drop i fs)) f d ≡ plain_of (shape x.1) d
  here same = one_field f d fs i x lt ∙ rw (sym is, same) refl

  pub further : bytes_eq (string_bytes x.0) f ≡ false → plain_of_field (fields_in (drop i fs)) f d ≡ plain_of_field (fields_in (drop (i + 1) fs)) f d
  further other = one_field f d fs i x lt ∙ rw (sym is, other) refl

-- ---- a loop over members, as far as it has come

abbrev pub IsPlainSoFar : (List ℕ → Data → Read Data) → Read Members → Members → List Entry → Type 0
IsPlainSoFar inner whole done it = (below [] (members_after done) (plain_members inner (members_view it)) ≡ whole) × IsStrictlySortedBy string_cmp (keys_of it) × AreBefore done it

module _ (inner : List ℕ → Data → Read Data) (whole : Read Members) (done : Members) (it : List Entry) (e : Entry) (left : List Entry) (steps : it ≡ e ∷ left) (so_far : IsPlainSoFar inner whole done it) where
  pub skip_null : is_null (view e.1) ≡ true → IsPlainSoFar inner whole done left
  skip_null null = (passed inner done it e left whole steps so_far.0 null, left_sorted it e left steps so_far.1, before_left it e left steps so_far.1 done so_far.2)

  pub take_in : (k : List ℕ) → k ≡ string_bytes e.0 → is_null (view e.1) ≡ false → (new : Members) → (d : Data) × (inner k (view e.1) ≡ Ok d) × (new ≡ put k d done) → IsPlainSoFar inner whole new left
  take_in k named has new added = (
    taken inner done it e left whole steps so_far.0 k named has added.0 new (first_below it e left steps so_far.1 done so_far.2 k named) added.1 added.2,
    left_sorted it e left steps so_far.1,
    before_left_too it e left steps so_far.1 done so_far.2 k added.0 new named added.2,
  )
