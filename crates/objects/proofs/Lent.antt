-- Members that borrow their text: a name taken out is missing, and one put back stands in its place.
use Rattle.std.proofs.Common.{◌≡◌, ◌≤◌, ◌==◌, ℕ, zero, suc, true, false, true≢false, Vec, List, [], ◌∷◌, length, Some, None, Ordering, Less, Equal, Greater, Global, refl, sym, ap, ◌∙◌, arith}
use Rattle.std.specs.Prelude.{codes}
use Rattle.std.specs.Cmp.Derive.{both_true}
use Rattle.std.specs.List.{insert}
use Rattle.std.specs.Ordering.{match_ordering}
use Rattle.std.proofs.lemmas.Bool.{and_parts}
use Rattle.json.specs.Value.{members_view, value_view}
use Rattle.json.specs.declared.value.Value.{Object}
use Rattle.json.proofs.Trees.{view-Object}
use Rattle.json_texts.specs.InOrder.{are_ordered, data_of, is_ordered, members_are_ordered, names}
use Rattle.json_texts.proofs.Parts.{names-data, ordered_parts}
use Rattle.serde_json.specs.Data.{object, Members, no_members, member, put}
use Rattle.serde_json.specs.Find.{get_member}
use Rattle.fieldpath.specs.Scalars.{ascend, ascend_from}
use Rattle.fieldpath.specs.Encodable.{member_names}
use Rattle.fieldpath.proofs.Names.{ascend_rest, first_below, rest_above}
use Rattle.fieldpath.proofs.Encodable.{put_ascend}
use Rattle.json_values.specs.Members.{less}
use Rattle.objects.specs.Borrowed.{Entry, AreOthers, data_in, place_in}
use Rattle.objects.specs.Parts.{put_metadata}
use Rattle.objects.proofs.Entries.{not_zero}
use Rattle.objects.proofs.Taken.{absent_above, cmp, no_some, tied}

names_ascend : (es : List Entry) → are_ordered (members_view es) ≡ true → ascend (member_names (data_in es)) ≡ true
names_ascend es h = ap ascend (names-data (members_view es)) ∙ (ordered_parts (members_view es) h).0

-- ---- one taken out

absent_first : (l : List ℕ) (ms : Members) → ascend_from l (member_names ms) ≡ true → get_member l ms ≡ None
absent_first l no_members up = refl
absent_first l (member m d ms) up =
    let above = first_below l m (member_names ms) up in
    ap (λ o. match_ordering o (get_member l ms) (Some d) (get_member l ms)) above ∙ absent_above l m ms above (rest_above l m (member_names ms) up)

absent_left : (k : List ℕ) (ms : Members) → ascend (member_names ms) ≡ true → get_member k (less k ms) ≡ None
absent_left k no_members up = refl
absent_left k (member l d ms) up = by_order (cmp k l) refl (absent_left k ms (ascend_rest l (member_names ms) up))
  where
    by_order : (o : Ordering) → cmp k l ≡ o → get_member k (less k ms) ≡ None → get_member k (match_ordering o (member l d (less k ms)) ms (member l d (less k ms))) ≡ None
    by_order Less is later = ap (λ x. match_ordering x (get_member k (less k ms)) (Some d) (get_member k (less k ms))) is ∙ later
    by_order Equal is later = ap (λ n. get_member n ms) (tied k l is) ∙ absent_first l ms up
    by_order Greater is later = ap (λ x. match_ordering x (get_member k (less k ms)) (Some d) (get_member k (less k ms))) is ∙ later

-- what is left once a name was taken out lacks it
pub others_left : (es left : List Entry) → are_ordered (members_view es) ≡ true → are_ordered (members_view left) ≡ true → data_in left ≡ less (codes "metadata") (data_in es) → AreOthers left
others_left es left h kept is = (kept, ap (get_member (codes "metadata")) is ∙ absent_left (codes "metadata") (data_in es) (names_ascend es h))

-- ---- one put back

pub place_within : (k : List ℕ) (es : List Entry) → place_in k (data_in es) ≤ length es
place_within k [] = omega arith
place_within k (e ∷ es) = by_order (cmp k e.0.now) (place_within k es)
  where
    by_order : (o : Ordering) → place_in k (data_in es) ≤ length es → match_ordering o 0 0 (suc (place_in k (data_in es))) ≤ suc (length es)
    by_order Less later = omega arith
    by_order Equal later = omega arith
    by_order Greater later = omega (arith, later)

put_at : (k : List ℕ) (m : Entry) (es : List Entry) → m.0.now ≡ k → get_member k (data_in es) ≡ None → data_in (insert es (place_in k (data_in es)) m) ≡ put k (data_of (value_view m.1)) (data_in es)
put_at k m [] named none = ap (λ n. member n (data_of (value_view m.1)) no_members) named
put_at k m (e ∷ es) named none = by_order (cmp k e.0.now) (put_at k m es named) none
  where
    by_order : (o : Ordering) → (get_member k (data_in es) ≡ None → data_in (insert es (place_in k (data_in es)) m) ≡ put k (data_of (value_view m.1)) (data_in es))
        → match_ordering o (get_member k (data_in es)) (Some (data_of (value_view e.1))) (get_member k (data_in es)) ≡ None
        → data_in (insert (e ∷ es) (match_ordering o 0 0 (suc (place_in k (data_in es)))) m)
        ≡ match_ordering o (member k (data_of (value_view m.1)) (data_in (e ∷ es))) (member e.0.now (data_of (value_view m.1)) (data_in es)) (member e.0.now (data_of (value_view e.1)) (put k (data_of (value_view m.1)) (data_in es)))
    by_order Less later absent = ap (λ n. member n (data_of (value_view m.1)) (data_in (e ∷ es))) named
    by_order Equal later absent = no_some (data_of (value_view e.1)) absent
    by_order Greater later absent = ap (member e.0.now (data_of (value_view e.1))) (later absent)

all_insert : (es : List Entry) (i : ℕ) (m : Entry) → is_ordered (value_view m.1) ≡ true → members_are_ordered (members_view es) ≡ true → members_are_ordered (members_view (insert es i m)) ≡ true
all_insert es zero m one h = both_true one h
all_insert [] (suc i) m one h = both_true one refl
all_insert (e ∷ es) (suc i) m one h = let p = and_parts (is_ordered (value_view e.1)) (members_are_ordered (members_view es)) h in both_true p.0 (all_insert es i m one p.1)

-- members with one more in its place
module _ (k : List ℕ) (es : List Entry) (i : ℕ) (m : Entry) (new : List Entry) (is : new ≡ insert es i m) (place : i ≡ place_in k (data_in es)) (named : m.0.now ≡ k) (none : get_member k (data_in es) ≡ None) where
  pub is_put : data_in new ≡ put k (data_of (value_view m.1)) (data_in es)
  is_put = ap data_in is ∙ ap (λ n. data_in (insert es n m)) place ∙ put_at k m es named none

  pub put_ordered : is_ordered (value_view m.1) ≡ true → are_ordered (members_view es) ≡ true → are_ordered (members_view new) ≡ true
  put_ordered one h =
      let up : ascend (names (members_view new)) ≡ true = ap ascend (sym (names-data (members_view new)) ∙ ap member_names is_put) ∙ put_ascend k (data_of (value_view m.1)) (data_in es) (names_ascend es h) in
      both_true up (ap (λ l. members_are_ordered (members_view l)) is ∙ all_insert es i m one (ordered_parts (members_view es) h).1)

-- members with what is left of `metadata`, where there is some
pub something_left : (ls : List Entry) (ms : Members) → (length ls == 0) ≡ false → put_metadata (data_in ls) ms ≡ put (codes "metadata") (object (data_in ls)) ms
something_left [] ms some = absurd (true≢false (sym none ∙ some))
  where
    none : (0 == 0) ≡ true
    none = grind arith
something_left (e ∷ ls) ms some = refl

pub nothing_left : (ls : List Entry) (ms : Members) → (length ls == 0) ≡ true → put_metadata (data_in ls) ms ≡ ms
nothing_left [] ms none = refl
nothing_left (e ∷ ls) ms none = absurd (true≢false (sym none ∙ not_zero (length ls)))

pub left_ordered : (ls : Vec Entry Global) → are_ordered (members_view ls.items) ≡ true → is_ordered (value_view (Object ls)) ≡ true
left_ordered ls h = ap is_ordered (view-Object ls) ∙ h
