-- A merge patch that is applied again.
use Rattle.std.proofs.Common.{◌≡◌, ℕ, List, Bool, true, false, true≢false, if◌then◌else◌, Option, Some, None, is_some, unwrap_or, Ordering, Less, Equal, Greater, nat_cmp, refl, sym, ap, subst, ◌∙◌}
use Rattle.std.proofs.lemmas.Cmp.{nat_list_cmp_total}
use Rattle.std.specs.Cmp.Lexicographic.{slice_cmp}
use Rattle.std.specs.Ordering.{match_ordering, ordering_reverse}
use Rattle.serde_json.specs.Data.{Data, null, boolean, number, string, array, object, Members, no_members, member, put}
use Rattle.serde_json.specs.Find.{as_null, get_member}
use Rattle.serde_json.proofs.Views.{get_member-put}
use Rattle.json_values.specs.Members.{less}
use Rattle.json_patch.specs.Ascending.{AreAfter, Ascends, MembersAscend}
use Rattle.json_patch.specs.MergePatch.{members_of, merge_patch, merge_members, value_at}
use Rattle.json_patch.proofs.Unnamed.{same_by, unnamed_stays}

abbrev cmp : List ℕ → List ℕ → Ordering
cmp = slice_cmp nat_cmp

-- ---- members that ascend

after_all : (k l : List ℕ) (ms : Members) → cmp k l ≡ Less → AreAfter l ms → AreAfter k ms
after_all k l no_members before after = tt
after_all k l (member m d ms) before after = (nat_list_cmp_total.trans k l m before after.0, after_all k l ms before after.1)

none_of : (k : List ℕ) (ms : Members) → AreAfter k ms → get_member k ms ≡ None
none_of k no_members after = refl
none_of k (member l d ms) after = rw (after.0) (none_of k ms after.1)

after_put_at : (o : Ordering) (j k l : List ℕ) (d e : Data) (ms : Members) → cmp j k ≡ Less → cmp j l ≡ Less → AreAfter j ms → AreAfter j (put k d ms)
    → AreAfter j (match_ordering o (member k d (member l e ms)) (member l d ms) (member l e (put k d ms)))
after_put_at Less j k l d e ms before this after later = (before, (this, after))
after_put_at Equal j k l d e ms before this after later = (this, after)
after_put_at Greater j k l d e ms before this after later = (this, later)

after_put : (j k : List ℕ) (d : Data) (ms : Members) → cmp j k ≡ Less → AreAfter j ms → AreAfter j (put k d ms)
after_put j k d no_members before after = (before, tt)
after_put j k d (member l e ms) before after = after_put_at (cmp k l) j k l d e ms before after.0 after.1 (after_put j k d ms before after.1)

put_ascends_at : (o : Ordering) (k l : List ℕ) (d e : Data) (ms : Members) → cmp k l ≡ o → MembersAscend (member l e ms) → Ascends d → MembersAscend (put k d ms)
    → MembersAscend (match_ordering o (member k d (member l e ms)) (member l d ms) (member l e (put k d ms)))
put_ascends_at Less k l d e ms is all this later = ((is, after_all k l ms is all.0), this, all)
put_ascends_at Equal k l d e ms is all this later = (all.0, this, all.2)
put_ascends_at Greater k l d e ms is all this later =
    (after_put l k d ms (nat_list_cmp_total.antisymm l k ∙ ap ordering_reverse is) all.0, all.1, later)

put_ascends : (k : List ℕ) (d : Data) (ms : Members) → MembersAscend ms → Ascends d → MembersAscend (put k d ms)
put_ascends k d no_members all this = (tt, this, tt)
put_ascends k d (member l e ms) all this = put_ascends_at (cmp k l) k l d e ms refl all this (put_ascends k d ms all.2 this)

after_less_at : (o : Ordering) (j l : List ℕ) (e : Data) (ms left : Members) → cmp j l ≡ Less → AreAfter j ms → AreAfter j left → AreAfter j (match_ordering o (member l e left) ms (member l e left))
after_less_at Less j l e ms left this after later = (this, later)
after_less_at Equal j l e ms left this after later = after
after_less_at Greater j l e ms left this after later = (this, later)

after_less : (j k : List ℕ) (ms : Members) → AreAfter j ms → AreAfter j (less k ms)
after_less j k no_members after = tt
after_less j k (member l e ms) after = after_less_at (cmp k l) j l e ms (less k ms) after.0 after.1 (after_less j k ms after.1)

less_ascends_at : (o : Ordering) (l : List ℕ) (e : Data) (ms left : Members) → MembersAscend (member l e ms) → AreAfter l left → MembersAscend left → MembersAscend (match_ordering o (member l e left) ms (member l e left))
less_ascends_at Less l e ms left all after later = (after, all.1, later)
less_ascends_at Equal l e ms left all after later = all.2
less_ascends_at Greater l e ms left all after later = (after, all.1, later)

less_ascends : (k : List ℕ) (ms : Members) → MembersAscend ms → MembersAscend (less k ms)
less_ascends k no_members all = tt
less_ascends k (member l e ms) all = less_ascends_at (cmp k l) l e ms (less k ms) all (after_less l k ms all.0) (less_ascends k ms all.2)

value_ascends_at : (o : Ordering) (e : Data) (r : Option Data) → Ascends e → Ascends (unwrap_or r null) → Ascends (unwrap_or (match_ordering o r (Some e) r) null)
value_ascends_at Less e r this later = later
value_ascends_at Equal e r this later = this
value_ascends_at Greater e r this later = later

value_ascends : (k : List ℕ) (ms : Members) → MembersAscend ms → Ascends (value_at k ms)
value_ascends k no_members all = tt
value_ascends k (member l e ms) all = value_ascends_at (cmp k l) e (get_member k ms) all.1 (value_ascends k ms all.2)

members_ascend : (d : Data) → Ascends d → MembersAscend (members_of d)
members_ascend null all = tt
members_ascend (boolean b) all = tt
members_ascend (number n) all = tt
members_ascend (string s) all = tt
members_ascend (array ds) all = tt
members_ascend (object ms) all = all

-- ---- what a merge keeps and does

step_ascends : (b : Bool) (k : List ℕ) (v : Data) (target : Members) → MembersAscend target → Ascends v → MembersAscend (if b then less k target else put k v target)
step_ascends true k v target all this = less_ascends k target all
step_ascends false k v target all this = put_ascends k v target all this

mutual
  merge_ascends : (d target : Data) → Ascends target → Ascends (merge_patch target d)
  merge_ascends null target all = tt
  merge_ascends (boolean b) target all = tt
  merge_ascends (number n) target all = tt
  merge_ascends (string s) target all = tt
  merge_ascends (array ds) target all = tt
  merge_ascends (object ms) target all = merged_ascend ms (members_of target) (members_ascend target all)

  merged_ascend : (ms target : Members) → MembersAscend target → MembersAscend (merge_members target ms)
  merged_ascend no_members target all = all
  merged_ascend (member k d ms) target all =
      merged_ascend ms _ (step_ascends (is_some (as_null d)) k (merge_patch (value_at k target) d) target all (merge_ascends d (value_at k target) (value_ascends k target all)))

less_gone_at : (o : Ordering) (k l : List ℕ) (e : Data) (ms left : Members) → cmp k l ≡ o → MembersAscend (member l e ms) → get_member k left ≡ None
    → get_member k (match_ordering o (member l e left) ms (member l e left)) ≡ None
less_gone_at Less k l e ms left is all later = rw is later
less_gone_at Equal k l e ms left is all later = none_of k ms (same_after is all.0)
  where
    same_after : cmp k l ≡ Equal → AreAfter l ms → AreAfter k ms
    same_after tie after = subst (λ (j : List ℕ). AreAfter j ms) (sym (same_by k l tie)) after
less_gone_at Greater k l e ms left is all later = rw is later

less_gone : (k : List ℕ) (ms : Members) → MembersAscend ms → get_member k (less k ms) ≡ None
less_gone k no_members all = refl
less_gone k (member l e ms) all = less_gone_at (cmp k l) k l e ms (less k ms) refl all (less_gone k ms all.2)

less_same_at : (o : Ordering) (l : List ℕ) (e : Data) (r : Option Data) (ms left : Members) → match_ordering o r (Some e) r ≡ None → (r ≡ None → left ≡ ms)
    → match_ordering o (member l e left) ms (member l e left) ≡ member l e ms
less_same_at Less l e r ms left none later = ap (member l e) (later none)
less_same_at Equal l e r ms left none later = absurd (true≢false (ap is_some none))
less_same_at Greater l e r ms left none later = ap (member l e) (later none)

less_same : (k : List ℕ) (ms : Members) → get_member k ms ≡ None → less k ms ≡ ms
less_same k no_members none = refl
less_same k (member l e ms) none = less_same_at (cmp k l) l e (get_member k ms) ms (less k ms) none (less_same k ms)

put_same_at : (o : Ordering) (k l : List ℕ) (v e : Data) (ms : Members) → cmp k l ≡ o → AreAfter l ms → match_ordering o (get_member k ms) (Some e) (get_member k ms) ≡ Some v
    → (get_member k ms ≡ Some v → put k v ms ≡ ms)
    → match_ordering o (member k v (member l e ms)) (member l v ms) (member l e (put k v ms)) ≡ member l e ms
put_same_at Less k l v e ms is after has later = absurd (true≢false (sym (ap is_some has) ∙ ap is_some (none_of k ms (after_all k l ms is after))))
put_same_at Equal k l v e ms is after has later = ap (λ o. member l (unwrap_or o v) ms) (sym has)
put_same_at Greater k l v e ms is after has later = ap (member l e) (later has)

put_same : (k : List ℕ) (v : Data) (ms : Members) → MembersAscend ms → get_member k ms ≡ Some v → put k v ms ≡ ms
put_same k v no_members all has = absurd (true≢false (sym (ap is_some has)))
put_same k v (member l e ms) all has = put_same_at (cmp k l) k l v e ms refl all.0 has (put_same k v ms all.2)

-- ---- what is done isn't done again

abbrev IsDoneBy : Bool → Members → List ℕ → Data → Type 0
IsDoneBy true target k d = get_member k target ≡ None
IsDoneBy false target k d = (v : Data) × (get_member k target ≡ Some v) × (merge_patch v d ≡ v)

abbrev IsDone : Members → Members → Type 0
IsDone target no_members = Unit {0}
IsDone target (member k d ms) = IsDoneBy (is_some (as_null d)) target k d × IsDone target ms

no_step : (b : Bool) (k : List ℕ) (d : Data) (target : Members) → MembersAscend target → IsDoneBy b target k d → (if b then less k target else put k (merge_patch (value_at k target) d) target) ≡ target
no_step true k d target all done = less_same k target done
no_step false k d target all done =
    ap (λ o. put k (merge_patch (unwrap_or o null) d) target) done.1 ∙ ap (λ v. put k v target) done.2 ∙ put_same k done.0 target all done.1

nothing_more : (ms target : Members) → MembersAscend target → IsDone target ms → merge_members target ms ≡ target
nothing_more no_members target all done = refl
nothing_more (member k d ms) target all done = ap (λ t. merge_members t ms) (no_step (is_some (as_null d)) k d target all done.0) ∙ nothing_more ms target all done.1

first_done : (b : Bool) (k : List ℕ) (d : Data) (ms target : Members) → AreAfter k ms → MembersAscend target
    → merge_patch (merge_patch (value_at k target) d) d ≡ merge_patch (value_at k target) d
    → IsDoneBy b (merge_members (if b then less k target else put k (merge_patch (value_at k target) d) target) ms) k d
first_done true k d ms target after all again = unnamed_stays k (less k target) ms (none_of k ms after) ∙ less_gone k target all
first_done false k d ms target after all again =
    let v = merge_patch (value_at k target) d in
    (v, unnamed_stays k (put k v target) ms (none_of k ms after) ∙ get_member-put k v target, again)

mutual
  pub twice_is_once : (d target : Data) → Ascends target → Ascends d → merge_patch (merge_patch target d) d ≡ merge_patch target d
  twice_is_once null target all patch = refl
  twice_is_once (boolean b) target all patch = refl
  twice_is_once (number n) target all patch = refl
  twice_is_once (string s) target all patch = refl
  twice_is_once (array ds) target all patch = refl
  twice_is_once (object ms) target all patch =
      let before = members_ascend target all in
      ap object (nothing_more ms (merge_members (members_of target) ms) (merged_ascend ms (members_of target) before) (all_done ms (members_of target) before patch))

  all_done : (ms target : Members) → MembersAscend target → MembersAscend ms → IsDone (merge_members target ms) ms
  all_done no_members target all patch = tt
  all_done (member k d ms) target all patch =
      let at = value_ascends k target all in
      let v = merge_patch (value_at k target) d in (
        first_done (is_some (as_null d)) k d ms target patch.0 all (twice_is_once d (value_at k target) at patch.1),
        all_done ms (if is_some (as_null d) then less k target else put k v target) (step_ascends (is_some (as_null d)) k v target all (merge_ascends d (value_at k target) at)) patch.2,
      )
