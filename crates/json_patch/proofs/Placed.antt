-- A value at a token of an array or an object: found, set, added, taken out.
use Rattle.std.proofs.Common.{◌≡◌, ℕ, zero, suc, ◌<◌, ◌≤◌, List, [], ◌∷◌, ◌++◌, length, get_or, set, Option, Some, None, option_map, option_and_then, unwrap_or, is_some, Bool, true, false, true≢false, ltb, cond, if◌then◌else◌, is_eq, Ordering, Less, Equal, Greater, String, Global, Vec, BTreeMap, string_bytes, string_cmp, refl, sym, ap, ◌∙◌, arith}
use Rattle.std.specs.Prelude.{◌↔◌}
use Rattle.std.specs.List.{insert, remove}
use Rattle.std.specs.Str.{bytes_eq}
use Rattle.std.specs.Map.{keys_of, lookup, set_value}
use Rattle.std.specs.Ordering.{match_ordering}
use Rattle.std.proofs.lemmas.Bool.{ltb-false, ltb-true}
use Rattle.std.proofs.lemmas.Map.Keys.{sorted_head, sorted_tail}
use Rattle.serde_json.specs.Data.{Data, array, object, Items, item, member, put}
use Rattle.serde_json.specs.Find.{get_item, index_of}
use Rattle.serde_json.specs.View.{view, items_view, members_view}
use Rattle.serde_json.specs.declared.value.Value.{Value, Array, Object}
use Rattle.serde_json.proofs.Views.{Entry, view-Array, view-Object, view-lookup, get_item_within, get_item_past}
use Rattle.json_values.specs.Members.{less}
use Rattle.json_patch.specs.Operations.{add_child, add_item, append_item, insert_item, taken}
use Rattle.json_patch.specs.Places.{at_index, child, less_item, set_item, with_child, without_child}
use Rattle.json_patch.proofs.Putting.{Ascend, all_after, bytes_cmp, named, AllAfter}

-- ---- items

pub insert_view : (xs : List Value) (i : ℕ) (v : Value) → i ≤ length xs → Some (items_view (insert xs i v)) ≡ insert_item i (view v) (items_view xs)
insert_view xs zero v within = refl
insert_view [] (suc i) v within = absurd (omega arith)
insert_view (x ∷ xs) (suc i) v within = ap (option_map (item (view x))) (insert_view xs i v (omega arith))

pub insert_past : (xs : List Value) (i : ℕ) (d : Data) → length xs < i → None ≡ insert_item i d (items_view xs)
insert_past xs zero d past = absurd (omega arith)
insert_past [] (suc i) d past = refl
insert_past (x ∷ xs) (suc i) d past = ap (option_map (item (view x))) (insert_past xs i d (omega arith))

pub append_view : (xs : List Value) (v : Value) → items_view (xs ++ v ∷ []) ≡ append_item (view v) (items_view xs)
append_view [] v = refl
append_view (x ∷ xs) v = ap (item (view x)) (append_view xs v)

pub remove_view : (xs : List Value) (i : ℕ) → i < length xs → items_view (remove xs i) ≡ less_item i (items_view xs)
remove_view [] i within = absurd (omega arith)
remove_view (x ∷ xs) zero within = refl
remove_view (x ∷ xs) (suc i) within = ap (item (view x)) (remove_view xs i (omega arith))

set_view : (xs : List Value) (i : ℕ) (v : Value) → items_view (set xs i v) ≡ set_item (view v) i (items_view xs)
set_view [] i v = refl
set_view (x ∷ xs) zero v = refl
set_view (x ∷ xs) (suc i) v = ap (item (view x)) (set_view xs i v)

-- ---- an item added at a token

module _ (t : List ℕ) (xs : List Value) (v : Value) where
  abbrev add_by : Bool → Option Items
  add_by b = if b then Some (append_item (view v) (items_view xs)) else option_and_then (λ i. insert_item i (view v) (items_view xs)) (index_of t)

  pub appended : (new : List Value) → bytes_eq t (45 ∷ []) ≡ true → new ≡ xs ++ v ∷ [] → Some (items_view new) ≡ add_item t (view v) (items_view xs)
  appended new dash is = ap (λ ys. Some (items_view ys)) is ∙ ap Some (append_view xs v) ∙ sym (ap add_by dash)

  module _ (other : bytes_eq t (45 ∷ []) ≡ false) (i : ℕ) (at : Some i ≡ index_of t) where
    by_index : insert_item i (view v) (items_view xs) ≡ add_item t (view v) (items_view xs)
    by_index = ap (option_and_then (λ j. insert_item j (view v) (items_view xs))) at ∙ sym (ap add_by other)

    pub not_inserted : length xs < i → None ≡ add_item t (view v) (items_view xs)
    not_inserted past = insert_past xs i (view v) past ∙ by_index

    pub inserted : (new : List Value) → i ≤ length xs → new ≡ insert xs i v → Some (items_view new) ≡ add_item t (view v) (items_view xs)
    inserted new within is = ap (λ ys. Some (items_view ys)) is ∙ insert_view xs i v within ∙ by_index

-- ---- members

none_found : (name : List ℕ) (es : List Entry) → AllAfter name es → lookup (named name) es ≡ None
none_found name [] after = refl
none_found name (e ∷ es) after = rw (after.0) (none_found name es after.1)

-- a value set where there is one
module _ (name : List ℕ) (w : Value) where
  set_step : (o : Ordering) (e : Entry) (es : List Entry) → bytes_cmp name (string_bytes e.0) ≡ o → Ascend (e ∷ es)
      → is_some (cond (is_eq o) (Some e.1) (lookup (named name) es)) ≡ true
      → (is_some (lookup (named name) es) ≡ true → members_view (set_value (named name) es w) ≡ put name (view w) (members_view es))
      → members_view (cond (is_eq o) ((e.0, w) ∷ es) (e ∷ set_value (named name) es w))
      ≡ match_ordering o (member name (view w) (members_view (e ∷ es))) (member (string_bytes e.0) (view w) (members_view es)) (member (string_bytes e.0) (view e.1) (put name (view w) (members_view es)))
  set_step Less e es is sorted found later =
      let none = none_found name es (all_after name e.0 es is (sorted_head string_cmp e.0 (keys_of es) sorted)) in
      absurd (true≢false (sym found ∙ ap is_some none))
  set_step Equal e es is sorted found later = refl
  set_step Greater e es is sorted found later = ap (member (string_bytes e.0) (view e.1)) (later found)

  set_member : (es : List Entry) → Ascend es → is_some (lookup (named name) es) ≡ true → members_view (set_value (named name) es w) ≡ put name (view w) (members_view es)
  set_member [] sorted found = absurd (true≢false (sym found))
  set_member (e ∷ es) sorted found =
      set_step (bytes_cmp name (string_bytes e.0)) e es refl sorted found (set_member es (sorted_tail string_cmp e.0 (keys_of es) sorted))

-- ---- an object

module _ (t : List ℕ) (whole : Value) (m : BTreeMap (String Global) Value) (is : whole ≡ Object m) where
  seen : view whole ≡ object (members_view m.entries)
  seen = ap view is ∙ view-Object m

  -- what a look-up finds is what lies at the token
  pub member_at : (o : Option Value) → o ≡ lookup (named t) m.entries → option_map view o ≡ child t (view whole)
  member_at o found = ap (option_map view) found ∙ view-lookup t m.entries ∙ sym (ap (child t) seen)

  pub member_set : (new : BTreeMap (String Global) Value) (v w : Value) → Some v ≡ lookup (named t) m.entries → Ascend m.entries
      → new.entries ≡ set_value (named t) m.entries w → view (Object new) ≡ with_child t (view w) (view whole)
  member_set new v w found sorted sets =
      view-Object new ∙ ap (λ es. object (members_view es)) sets ∙ ap object (set_member t w m.entries sorted (sym (ap is_some found))) ∙ sym (ap (with_child t (view w)) seen)

  pub member_removed : (new : BTreeMap (String Global) Value) → members_view new.entries ≡ less t (members_view m.entries) → view (Object new) ≡ without_child t (view whole)
  member_removed new left = view-Object new ∙ ap object left ∙ sym (ap (without_child t) seen)

  pub member_put : (new : BTreeMap (String Global) Value) (d : Data) → members_view new.entries ≡ put t d (members_view m.entries) → Some (view (Object new)) ≡ add_child t d (view whole)
  member_put new d puts = ap Some (view-Object new ∙ ap object puts) ∙ sym (ap (add_child t d) seen)

-- ---- an array

module _ (t : List ℕ) (whole : Value) (v : Vec Value Global) (is : whole ≡ Array v) (d : Data) where
  pub item_added : (new : Vec Value Global) → Some (items_view new.items) ≡ add_item t d (items_view v.items) → Some (view (Array new)) ≡ add_child t d (view whole)
  item_added new adds = ap Some (view-Array new) ∙ ap (option_map array) adds ∙ sym (ap (add_child t d) (ap view is ∙ view-Array v))

  pub no_item_added : None ≡ add_item t d (items_view v.items) → None ≡ add_child t d (view whole)
  no_item_added none = ap (option_map array) none ∙ sym (ap (add_child t d) (ap view is ∙ view-Array v))

pub no_index : (t : List ℕ) (whole : Value) (v : Vec Value Global) → whole ≡ Array v → None ≡ index_of t → None ≡ child t (view whole)
no_index t whole v is none = ap (option_and_then (λ i. get_item i (items_view v.items))) none ∙ sym (ap (child t) (ap view is ∙ view-Array v))

module _ (t : List ℕ) (whole : Value) (v : Vec Value Global) (is : whole ≡ Array v) (i : ℕ) (at : Some i ≡ index_of t) where
  shown : view whole ≡ array (items_view v.items)
  shown = ap view is ∙ view-Array v

  found_by : get_item i (items_view v.items) ≡ child t (view whole)
  found_by = ap (option_and_then (λ j. get_item j (items_view v.items))) at ∙ sym (ap (child t) shown)

  pub item_at : (x : Value) → i < length v.items → x ≡ get_or v.items i x → Some (view x) ≡ child t (view whole)
  item_at x within x_is = ap (λ y. Some (view y)) x_is ∙ get_item_within v.items i x within ∙ found_by

  pub item_past : length v.items ≤ i → None ≡ child t (view whole)
  item_past past = get_item_past v.items i past ∙ found_by

  changed_at : (f : ℕ → Items → Items) → f i (items_view v.items) ≡ at_index t f (items_view v.items)
  changed_at f = ap (λ o. unwrap_or (option_map (λ j. f j (items_view v.items)) o) (items_view v.items)) at

  pub item_set : (new : Vec Value Global) (w : Value) → new.items ≡ set v.items i w → view (Array new) ≡ with_child t (view w) (view whole)
  item_set new w sets =
      view-Array new ∙ ap (λ xs. array (items_view xs)) sets ∙ ap array (set_view v.items i w ∙ changed_at (set_item (view w))) ∙ sym (ap (with_child t (view w)) shown)

  pub item_removed : (new : Vec Value Global) → i < length v.items → new.items ≡ remove v.items i → view (Array new) ≡ without_child t (view whole)
  item_removed new within sets =
      view-Array new ∙ ap (λ xs. array (items_view xs)) sets ∙ ap array (remove_view v.items i within ∙ changed_at less_item) ∙ sym (ap (without_child t) shown)

-- what a look-up by an index tells of the length

pub past_end : (v : Vec Value Global) (i : ℕ) → ((is_some {T = Value} None ≡ true) ↔ (i < v.len)) → length v.items ≤ i
past_end v i is = by_test (ltb i v.len) refl
  where
    by_test : (b : Bool) → ltb i v.len ≡ b → length v.items ≤ i
    by_test true inside = absurd (true≢false (sym (is.1 (ltb-true i v.len inside))))
    by_test false past = let le : v.len ≤ i = ltb-false i v.len past in omega (arith, v.ok.0)

pub within_end : (v : Vec Value Global) (i : ℕ) → ((true ≡ true) ↔ (i < v.len)) → i < length v.items
within_end v i is = let less : i < v.len = is.0 refl in omega (arith, v.ok.0)

-- ---- what is taken out

pub taken_out : (t : List ℕ) (whole d left : Data) → Some d ≡ child t whole → left ≡ without_child t whole → ◌≡◌ {A = Option (Data × Data)} (Some (d, left)) (taken t whole)
taken_out t whole d left there is =
    let with_left : Data → Option (Data × Data) = λ l. Some (d, l) in
    let with_rest : Data → Data × Data = λ e. (e, without_child t whole) in
    ap with_left is ∙ ap (option_map with_rest) there

pub nothing_taken : (t : List ℕ) (whole : Data) → None ≡ child t whole → None ≡ taken t whole
nothing_taken t whole none = let with_rest : Data → Data × Data = λ e. (e, without_child t whole) in ap (option_map with_rest) none
