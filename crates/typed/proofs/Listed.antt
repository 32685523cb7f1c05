-- Items of sets and map lists, one after another.
use Rattle.std.specs.List.{list_any}
use Rattle.std.specs.Str.{bytes_eq}
use Rattle.std.proofs.Common.{◌≡◌, ℕ, ◌+◌, ◌<◌, Bool, true, false, cond, List, [], ◌∷◌, length, drop, get_or, add-one, Some, None, Ok, Err, sym, ap, subst, ◌∙◌}
use Rattle.std.proofs.lemmas.List.{drop_more}
use Rattle.serde_json.specs.Data.{Data, Items, no_items, item, Members, object}
use Rattle.serde_json.specs.Find.{as_object}
use Rattle.serde_json.specs.View.{view, items_view}
use Rattle.serde_json.specs.declared.value.Value.{Value}
use Rattle.fieldpath.specs.Elements.{list_item_text}
use Rattle.pathmap.specs.Contents.{Content, nothing, over}
use Rattle.pathmap.specs.Insides.{inside}
use Rattle.pathmap.specs.Levels.{has_path}
use Rattle.pathmap.proofs.Heads.{inside-nothing}
use Rattle.pathmap.proofs.Levels.{nothing_path}
use Rattle.typed.specs.declared.fault.Cause.TheVariants.{DuplicateItem, KeyFieldMissing, NotAnObject, WrongType}
use Rattle.typed.specs.declared.fault.ReadFault.{ReadFault}
use Rattle.typed.specs.Faults.{Read, ReportsFault, fault_in, below, and_then, shown_place, some_or}
use Rattle.typed.specs.Keyed.{keyed_members}
use Rattle.typed.specs.Reading.{is_null, joined, marked, one_item, items_at, have_keys, keys_in, keyed_item, named_item, object_item}
use Rattle.typed.proofs.Floats.{ok_is, err_not_ok}
use Rattle.typed.specs.Steps.{AreSeen}
use Rattle.typed.proofs.Joins.{joined-nothing, joined-none, joined-joined, reports-after}

pub repeated : (seen : List (List ℕ)) (i : ℕ) (e : List ℕ × Content) (read : Read (List ℕ × Content)) (rest : List (List ℕ) → Read Content) → read ≡ Ok e → list_any (bytes_eq e.0) seen ≡ true
    → fault_in (one_item seen (below (shown_place i) (λ x. x) read) rest) ≡ Some (DuplicateItem, [])
repeated seen i e read rest is again = rw (is) (ap (λ b. fault_in (cond b (Err (DuplicateItem, [])) (joined (Ok (marked e.0 e.1)) (rest (e.0 ∷ seen))))) again)

-- ---- a loop over items, as far as it has come

abbrev pub AreItemsTo : (Data → Read (List ℕ × Content)) → Read Content → Content → ℕ → Items → Type 0
AreItemsTo inner whole c i left = (seen : List (List ℕ)) × (joined (Ok c) (items_at inner i seen left) ≡ whole) × AreSeen seen c

pub list_begin : (inner : Data → Read (List ℕ × Content)) (c : Content) (all : Items) → c ≡ nothing → AreItemsTo inner (items_at inner 0 [] all) c 0 all
list_begin inner c all none = (
  [],
  ap (λ x. joined (Ok x) (items_at inner 0 [] all)) none ∙ joined-nothing (items_at inner 0 [] all),
  λ g. ap has_path (ap (inside g) none ∙ inside-nothing g) ∙ nothing_path,
)

pub list_end : (inner : Data → Read (List ℕ × Content)) (whole : Read Content) (c : Content) (i : ℕ) (left : Items) → left ≡ no_items → AreItemsTo inner whole c i left → whole ≡ Ok c
list_end inner whole c i left none so_far = sym so_far.1 ∙ ap (λ l. joined (Ok c) (items_at inner i so_far.0 l)) none ∙ joined-none c

module _ (inner : Data → Read (List ℕ × Content)) (whole : Read Content) (c : Content) (i : ℕ) (left : Items) (d : Data) (more : Items) (steps : left ≡ item d more) (so_far : AreItemsTo inner whole c i left) where
  abbrev rest : List (List ℕ) → Read Content
  rest seen = items_at inner (i + 1) seen more

  there : joined (Ok c) (one_item so_far.0 (below (shown_place i) (λ e. e) (inner d)) (λ seen. items_at inner (i + 1) seen more)) ≡ whole
  there = rw add-one (sym (ap (λ l. joined (Ok c) (items_at inner i so_far.0 l)) steps) ∙ so_far.1)

  pub next_added : (new : Content)
      → (e : List ℕ × Content) × (inner d ≡ Ok e) × (list_any (bytes_eq e.0) so_far.0 ≡ false) × (new ≡ over c (marked e.0 e.1)) × AreSeen (e.0 ∷ so_far.0) new
      → AreItemsTo inner whole new (i + 1) more
  next_added new added =
      let e = added.0 in (
        e.0 ∷ so_far.0,
        ap (λ x. joined (Ok x) (rest (e.0 ∷ so_far.0))) added.3
            ∙ joined-joined (Ok c) (Ok (marked e.0 e.1)) (rest (e.0 ∷ so_far.0))
            ∙ ap (λ b. joined (Ok c) (cond b (Err (DuplicateItem, [])) (joined (Ok (marked e.0 e.1)) (rest (e.0 ∷ so_far.0))))) (sym added.2)
            ∙ ap (λ r. joined (Ok c) (one_item so_far.0 (below (shown_place i) (λ e. e) r) rest)) (sym added.1)
            ∙ there,
        added.4,
      )

  pub next_failed : (f : ReadFault) → ((rest : List (List ℕ) → Read Content) → ReportsFault f (fault_in (one_item so_far.0 (below (shown_place i) (λ e. e) (inner d)) rest))) → ReportsFault f (fault_in whole)
  next_failed f h = subst (λ r. ReportsFault f (fault_in r)) there (reports-after f c _ (h rest))

-- the same loop over a slice of values

abbrev pub AreItemsSoFar : (Data → Read (List ℕ × Content)) → Read Content → Content → ℕ → List Value → Type 0
AreItemsSoFar inner whole c i left = AreItemsTo inner whole c i (items_view left)

pub items_begin : (inner : Data → Read (List ℕ × Content)) (c : Content) (all : List Value) → c ≡ nothing → AreItemsSoFar inner (items_at inner 0 [] (items_view all)) c 0 all
items_begin inner c all none = list_begin inner c (items_view all) none

pub items_end : (inner : Data → Read (List ℕ × Content)) (whole : Read Content) (c : Content) (i : ℕ) (left : List Value) → left ≡ [] → AreItemsSoFar inner whole c i left → whole ≡ Ok c
items_end inner whole c i left none so_far = list_end inner whole c i (items_view left) (ap items_view none) so_far

module _ (inner : Data → Read (List ℕ × Content)) (whole : Read Content) (c : Content) (all : List Value) (i : ℕ) (v : Value) (lt : i < length all) (is : v ≡ get_or all i v) (so_far : AreItemsSoFar inner whole c i (drop i all)) where
  steps_on : items_view (drop i all) ≡ item (view v) (items_view (drop (i + 1) all))
  steps_on = ap items_view (drop_more all i v lt ∙ ap (λ w. w ∷ drop (i + 1) all) (sym is))

  pub item_added : (new : Content)
      → (e : List ℕ × Content) × (inner (view v) ≡ Ok e) × (list_any (bytes_eq e.0) so_far.0 ≡ false) × (new ≡ over c (marked e.0 e.1)) × AreSeen (e.0 ∷ so_far.0) new
      → AreItemsSoFar inner whole new (i + 1) (drop (i + 1) all)
  item_added = next_added inner whole c i (items_view (drop i all)) (view v) (items_view (drop (i + 1) all)) steps_on so_far

  pub item_failed : (f : ReadFault) → ((rest : List (List ℕ) → Read Content) → ReportsFault f (fault_in (one_item so_far.0 (below (shown_place i) (λ e. e) (inner (view v))) rest))) → ReportsFault f (fault_in whole)
  item_failed = next_failed inner whole c i (items_view (drop i all)) (view v) (items_view (drop (i + 1) all)) steps_on so_far

-- ---- an item of a map list, once it is an object

module _ (names : List (List ℕ)) (inner : Members → Read Content) where
  pub object_keyed : (d : Data) (ms : Members) → Some ms ≡ as_object d → keyed_members names inner ms ≡ keyed_item names inner d
  object_keyed d ms h = ap (λ o. and_then {Y = List ℕ × Content} (some_or (cond (is_null d) WrongType NotAnObject) o) (keyed_members names inner)) h

  pub other_keyed : (d : Data) → None ≡ as_object d → fault_in (keyed_item names inner d) ≡ Some (cond (is_null d) WrongType NotAnObject, [])
  other_keyed d h = ap (λ o. fault_in (and_then {Y = List ℕ × Content} (some_or (cond (is_null d) WrongType NotAnObject) o) (keyed_members names inner))) (sym h)

  pub with_keys : (ms : Members) → have_keys names ms ≡ true → keyed_members names inner ms ≡ and_then (inner ms) (named_item (list_item_text (object (keys_in names ms))))
  with_keys ms h = ap (λ b. cond b (and_then (inner ms) (named_item (list_item_text (object (keys_in names ms))))) (Err (KeyFieldMissing, []))) h

-- ---- an item of a map list, once its key fields are there

pub keyed_is : (names : List (List ℕ)) (inner : Members → Read Content) (d : Data) (ms : Members) → and_then (object_item d) (λ ms. cond (have_keys names ms) (Ok ms) (Err (KeyFieldMissing, []))) ≡ Ok ms
    → keyed_item names inner d ≡ and_then (inner ms) (named_item (list_item_text (object (keys_in names ms))))
keyed_is names inner d ms h = by_object (object_item d) h
  where
    by_keys : (ns : Members) (b : Bool) → ◌≡◌ {A = Read Members} (cond b (Ok ns) (Err (KeyFieldMissing, []))) (Ok ms)
        → ◌≡◌ {A = Read (List ℕ × Content)} (cond b (and_then (inner ns) (named_item (list_item_text (object (keys_in names ns))))) (Err (KeyFieldMissing, []))) (and_then (inner ms) (named_item (list_item_text (object (keys_in names ms)))))
    by_keys ns true is = ap (λ m. and_then (inner m) (named_item (list_item_text (object (keys_in names m))))) (ok_is ns ms is)
    by_keys ns false is = absurd (err_not_ok (KeyFieldMissing, []) ms is)

    by_object : (r : Read Members) → and_then r (λ ms. cond (have_keys names ms) (Ok ms) (Err (KeyFieldMissing, []))) ≡ Ok ms
        → and_then {Y = List ℕ × Content} r (λ ms. cond (have_keys names ms) (and_then (inner ms) (named_item (list_item_text (object (keys_in names ms))))) (Err (KeyFieldMissing, []))) ≡ and_then (inner ms) (named_item (list_item_text (object (keys_in names ms))))
    by_object (Err e) is = absurd (err_not_ok e ms is)
    by_object (Ok ns) is = by_keys ns (have_keys names ns) is
