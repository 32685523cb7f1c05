-- Members of an object, one taken out and put back.
use Rattle.std.proofs.Common.{◌≡◌, ◌≤◌, ℕ, Bool, true, false, max, List, Some, None, is_some, Ordering, Less, Equal, Greater, nat_cmp, is_eq, refl, sym, ap, ◌∙◌, true≢false, subst, arith}
use Rattle.std.specs.Cmp.{tied_itself}
use Rattle.std.specs.Cmp.Lexicographic.{slice_cmp, bytes_decides}
use Rattle.std.specs.FinMap.{nat_cmp-IsAntisymmetric, slice_cmp-IsAntisymmetric}
use Rattle.std.specs.Option.{unwrap_or}
use Rattle.std.specs.Ordering.{is_lt, match_ordering}
use Rattle.std.specs.Str.{bytes_eq}
use Rattle.std.proofs.lemmas.Cmp.{nat_list_cmp_total}
use Rattle.serde_json.specs.Data.{Data, Members, no_members, member, put, depth, members_depth}
use Rattle.serde_json.specs.Find.{get_member}
use Rattle.fieldpath.specs.Scalars.{ascend, ascend_from}
use Rattle.fieldpath.specs.Encodable.{IsEncodable, MembersAreEncodable, member_names}
pub use Rattle.fieldpath.proofs.Names.{ascend_rest, first_below, further, rest_above}
use Rattle.json_values.specs.Members.{less}
use Rattle.objects.proofs.Within.{both_true}

pub no_some : {A P : Type 0} (x : A) → Some x ≡ None → P
no_some x e = absurd (true≢false (ap is_some e))

pub same_some : {A : Type 0} (x y : A) → Some x ≡ Some y → x ≡ y
same_some x y e = ap (λ o. unwrap_or o x) e

-- ---- names

abbrev pub cmp : List ℕ → List ℕ → Ordering
cmp = slice_cmp nat_cmp

pub same_text : (k : List ℕ) → cmp k k ≡ Equal
same_text k = tied_itself nat_list_cmp_total k

pub tied : (k l : List ℕ) → cmp k l ≡ Equal → k ≡ l
tied = slice_cmp-IsAntisymmetric nat_cmp-IsAntisymmetric

pub apart : (k l : List ℕ) → bytes_eq k l ≡ false → k ≡ l → ⊥
apart k l other same = true≢false (sym ((bytes_decides k l).1 same) ∙ other)

-- a name above another has other bytes
pub below_apart : (k l : List ℕ) → cmp k l ≡ Less → bytes_eq l k ≡ false
below_apart k l lt = by_test (bytes_eq l k) refl
  where
    by_test : (b : Bool) → bytes_eq l k ≡ b → b ≡ false
    by_test true is = absurd (true≢false (ap is_eq (sym (same_text k) ∙ ap (cmp k) (sym ((bytes_decides l k).0 is)) ∙ lt)))
    by_test false is = refl

-- ---- one taken out

less_first : (k : List ℕ) (d : Data) (ms : Members) → less k (member k d ms) ≡ ms
less_first k d ms = ap (λ o. match_ordering o (member k d (less k ms)) ms (member k d (less k ms))) (same_text k)

less_tied : (k l : List ℕ) (d : Data) (ms : Members) → cmp k l ≡ Equal → less k (member l d ms) ≡ ms
less_tied k l d ms is = ap (λ o. match_ordering o (member l d (less k ms)) ms (member l d (less k ms))) is

less_later : (k l : List ℕ) (d : Data) (ms : Members) → cmp k l ≡ Greater → less k (member l d ms) ≡ member l d (less k ms)
less_later k l d ms is = ap (λ o. match_ordering o (member l d (less k ms)) ms (member l d (less k ms))) is

put_later : (k l : List ℕ) (d e : Data) (ms : Members) → cmp k l ≡ Greater → put k d (member l e ms) ≡ member l e (put k d ms)
put_later k l d e ms is = ap (λ o. match_ordering o (member k d (member l e ms)) (member l d ms) (member l e (put k d ms))) is

pub less_absent : (k : List ℕ) (ms : Members) → get_member k ms ≡ None → less k ms ≡ ms
less_absent k no_members h = refl
less_absent k (member l d ms) h = by_order (cmp k l) (less_absent k ms) h
  where
    by_order : (o : Ordering) → (get_member k ms ≡ None → less k ms ≡ ms) → match_ordering o (get_member k ms) (Some d) (get_member k ms) ≡ None
        → match_ordering o (member l d (less k ms)) ms (member l d (less k ms)) ≡ member l d ms
    by_order Less later none = ap (member l d) (later none)
    by_order Equal later none = no_some d none
    by_order Greater later none = ap (member l d) (later none)

-- what was put where nothing was
pub less_put : (k : List ℕ) (d : Data) (ms : Members) → get_member k ms ≡ None → less k (put k d ms) ≡ ms
less_put k d no_members h = less_first k d no_members
less_put k d (member l e ms) h = by_order (cmp k l) refl (less_put k d ms) h
  where
    by_order : (o : Ordering) → cmp k l ≡ o → (get_member k ms ≡ None → less k (put k d ms) ≡ ms) → match_ordering o (get_member k ms) (Some e) (get_member k ms) ≡ None
        → less k (match_ordering o (member k d (member l e ms)) (member l d ms) (member l e (put k d ms))) ≡ member l e ms
    by_order Less is later none = less_first k d (member l e ms)
    by_order Equal is later none = no_some e none
    by_order Greater is later none = less_later k l e (put k d ms) is ∙ ap (member l e) (later none)

-- ---- one put back

put_prefix : (l : List ℕ) (e : Data) (ms : Members) → ascend_from l (member_names ms) ≡ true → put l e ms ≡ member l e ms
put_prefix l e no_members h = refl
put_prefix l e (member m g ms) h = ap (λ o. match_ordering o (member l e (member m g ms)) (member m e ms) (member m g (put l e ms))) (first_below l m (member_names ms) h)

pub absent_above : (k l : List ℕ) (ms : Members) → cmp k l ≡ Less → ascend_from l (member_names ms) ≡ true → get_member k ms ≡ None
absent_above k l no_members lt h = refl
absent_above k l (member m g ms) lt h =
    let next = nat_list_cmp_total.trans k l m lt (first_below l m (member_names ms) h) in
    ap (λ o. match_ordering o (get_member k ms) (Some g) (get_member k ms)) next ∙ absent_above k m ms next (rest_above l m (member_names ms) h)

pub put_back : (k : List ℕ) (d e : Data) (ms : Members) → ascend (member_names ms) ≡ true → get_member k ms ≡ Some e → put k e (less k (put k d ms)) ≡ ms
put_back k d e no_members up h = no_some e (sym h)
put_back k d e (member l f ms) up h = by_order (cmp k l) refl (put_back k d e ms (ascend_rest l (member_names ms) up)) h
  where
    by_order : (o : Ordering) → cmp k l ≡ o → (get_member k ms ≡ Some e → put k e (less k (put k d ms)) ≡ ms) → match_ordering o (get_member k ms) (Some f) (get_member k ms) ≡ Some e
        → put k e (less k (match_ordering o (member k d (member l f ms)) (member l d ms) (member l f (put k d ms)))) ≡ member l f ms
    by_order Less is later there = no_some e (sym there ∙ absent_above k l ms is up)
    by_order Equal is later there =
        let same = tied k l is in
        ap (put k e) (less_tied k l d ms is) ∙ ap (λ n. put n e ms) same ∙ put_prefix l e ms up ∙ ap (λ x. member l x ms) (sym (same_some f e there))
    by_order Greater is later there = ap (put k e) (less_later k l f (put k d ms) is) ∙ put_later k l e f (less k (put k d ms)) is ∙ ap (member l f) (later there)

-- ---- what stays in order, spelled, and no deeper than n

abbrev pub Kept : ℕ → Members → Type 0
Kept n ms = (ascend (member_names ms) ≡ true) × MembersAreEncodable ms × (members_depth ms ≤ n)

pub left_deep : (a b n : ℕ) → max a b ≤ n → a ≤ n
left_deep a b n h = omega (arith, h)

pub right_deep : (a b n : ℕ) → max a b ≤ n → b ≤ n
right_deep a b n h = omega (arith, h)

pub no_deeper : (a b n : ℕ) → a ≤ n → b ≤ n → max a b ≤ n
no_deeper a b n h k = omega (arith, h, k)

less_from : (j k : List ℕ) (ms : Members) → ascend_from j (member_names ms) ≡ true → ascend_from j (member_names (less k ms)) ≡ true
less_from j k no_members h = refl
less_from j k (member l d ms) h = by_order (cmp k l) (less_from l k ms (rest_above j l (member_names ms) h))
  where
    by_order : (o : Ordering) → ascend_from l (member_names (less k ms)) ≡ true → ascend_from j (member_names (match_ordering o (member l d (less k ms)) ms (member l d (less k ms)))) ≡ true
    by_order Less later = both_true _ _ (ap is_lt (first_below j l (member_names ms) h)) later
    by_order Equal later = further j l (member_names ms) (first_below j l (member_names ms) h) (rest_above j l (member_names ms) h)
    by_order Greater later = both_true _ _ (ap is_lt (first_below j l (member_names ms) h)) later

less_ascend : (k : List ℕ) (ms : Members) → ascend (member_names ms) ≡ true → ascend (member_names (less k ms)) ≡ true
less_ascend k no_members h = refl
less_ascend k (member l d ms) h = by_order (cmp k l) (less_from l k ms h)
  where
    by_order : (o : Ordering) → ascend_from l (member_names (less k ms)) ≡ true → ascend (member_names (match_ordering o (member l d (less k ms)) ms (member l d (less k ms)))) ≡ true
    by_order Less later = later
    by_order Equal later = ascend_rest l (member_names ms) h
    by_order Greater later = later

pub less_encodable : (k : List ℕ) (ms : Members) → MembersAreEncodable ms → MembersAreEncodable (less k ms)
less_encodable k no_members h = tt
less_encodable k (member l d ms) h = by_order (cmp k l) (less_encodable k ms h.1)
  where
    by_order : (o : Ordering) → MembersAreEncodable (less k ms) → MembersAreEncodable (match_ordering o (member l d (less k ms)) ms (member l d (less k ms)))
    by_order Less later = (h.0, later)
    by_order Equal later = h.1
    by_order Greater later = (h.0, later)

less_depth : (n : ℕ) (k : List ℕ) (ms : Members) → members_depth ms ≤ n → members_depth (less k ms) ≤ n
less_depth n k no_members h = h
less_depth n k (member l d ms) h = by_order (cmp k l) (less_depth n k ms (right_deep (depth d) (members_depth ms) n h))
  where
    one : depth d ≤ n
    one = left_deep (depth d) (members_depth ms) n h

    by_order : (o : Ordering) → members_depth (less k ms) ≤ n → members_depth (match_ordering o (member l d (less k ms)) ms (member l d (less k ms))) ≤ n
    by_order Less later = no_deeper (depth d) (members_depth (less k ms)) n one later
    by_order Equal later = right_deep (depth d) (members_depth ms) n h
    by_order Greater later = no_deeper (depth d) (members_depth (less k ms)) n one later

pub less_kept : (n : ℕ) (k : List ℕ) (ms : Members) → Kept n ms → Kept n (less k ms)
less_kept n k ms h = (less_ascend k ms h.0, less_encodable k ms h.1, less_depth n k ms h.2)

-- ---- what is found

pub found_encodable : (k : List ℕ) (d : Data) (ms : Members) → MembersAreEncodable ms → get_member k ms ≡ Some d → IsEncodable d
found_encodable k d no_members all h = no_some d (sym h)
found_encodable k d (member l e ms) all h = by_order (cmp k l) (found_encodable k d ms all.1) h
  where
    by_order : (o : Ordering) → (get_member k ms ≡ Some d → IsEncodable d) → match_ordering o (get_member k ms) (Some e) (get_member k ms) ≡ Some d → IsEncodable d
    by_order Less later there = later there
    by_order Equal later there = subst IsEncodable (same_some e d there) all.0
    by_order Greater later there = later there

pub found_depth : (n : ℕ) (k : List ℕ) (d : Data) (ms : Members) → members_depth ms ≤ n → get_member k ms ≡ Some d → depth d ≤ n
found_depth n k d no_members deep h = no_some d (sym h)
found_depth n k d (member l e ms) deep h = by_order (cmp k l) (found_depth n k d ms (right_deep (depth e) (members_depth ms) n deep)) h
  where
    by_order : (o : Ordering) → (get_member k ms ≡ Some d → depth d ≤ n) → match_ordering o (get_member k ms) (Some e) (get_member k ms) ≡ Some d → depth d ≤ n
    by_order Less later there = later there
    by_order Equal later there = subst (λ x. depth x ≤ n) (same_some e d there) (left_deep (depth e) (members_depth ms) n deep)
    by_order Greater later there = later there
