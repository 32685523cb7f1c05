-- What an update makes of the owners.
use Rattle.std.proofs.Common.{◌≡◌, Bool, true, false, not, ◌&&◌, ◌||◌, Some, None, is_some, inl, inr, ◌⊎◌, refl, sym, ap, ap₂, ◌∙◌, subst, true≢false}
use Rattle.std.specs.FinMap as fin
use Rattle.std.specs.FinSet as set
use Rattle.std.specs.Option.{unwrap_or}
use Rattle.fieldpath.specs.Paths.{PathTexts, path_cmp}
use Rattle.pathmap.specs.Contents.{Content, PathSet, dom}
use Rattle.pathmap.specs.Beside.{changed, same_value}
use Rattle.pathmap.proofs.Contents.{path_cmp_total}
use Rattle.pathmap.proofs.Sets.{same_paths, contains-changed, contains-dom}
use Rattle.schema.specs.Shape.{Shape}
use Rattle.objects.specs.Owners.{Manager, Owners, is_same, owned_by, taken_over}
use Rattle.objects.specs.State.{State}
use Rattle.objects.specs.WellTyped.{IsPresent, Owns, OwnedArePresent}
use Rattle.ownership.specs.Keeping.{LeavesOwned, StoodUnowned}
use Rattle.ownership.specs.Update.{removed, updated}
use Rattle.objects.proofs.Within.{left_true, right_true, both_true, same_manager-is}
use Rattle.ownership.proofs.Leaves.{owned_or_not}
use Rattle.ownership.proofs.Sameness.{same_value-is}
use Rattle.objects.proofs.Taking.{empty-difference, owned_mine, owned_other}

pub empty-union : (s : PathSet) → set.union set.empty s ≡ s
empty-union s = same_paths (set.union set.empty s) s (λ q. set.contains-union path_cmp_total set.empty s q ∙ ap (λ b. b || set.contains s q) (set.contains-empty path_cmp q))

module _ (w : Owners) (m : Manager) (gone changes : PathSet) where
  pub then_some : (owned : PathSet) → fin.get w m ≡ Some owned → set.union (set.difference owned gone) changes ≡ set.union (set.difference (owned_by w m) gone) changes
  unfolding owned_by
  then_some owned is = ap (λ o. set.union (set.difference (unwrap_or o set.empty) gone) changes) (sym is)

  pub then_none : fin.get w m ≡ None → changes ≡ set.union (set.difference (owned_by w m) gone) changes
  unfolding owned_by
  then_none is = sym (ap (λ o. set.union (set.difference (unwrap_or o set.empty) gone) changes) is ∙ ap (λ s. set.union s changes) (empty-difference gone) ∙ empty-union changes)

-- an update, from what its steps gave
pub updated_is : (live : State) (new : Content) (m k : Manager) (changes gone lost mine : PathSet) (w : Owners) → k ≡ m → changes ≡ changed new live.content → gone ≡ removed live.content new → lost ≡ set.union changes gone
    → mine ≡ set.union (set.difference (owned_by live.owners k) gone) changes → w ≡ taken_over live.owners k lost mine → record { content = new; owners = w } ≡ updated live new m
unfolding updated
updated_is live new m k changes gone lost mine w same changes_are gone_is lost_is mine_is left =
    let lost_all = lost_is ∙ ap₂ set.union changes_are gone_is in
    let mine_all = mine_is ∙ ap (λ x. set.union (set.difference (owned_by live.owners x) gone) changes) same ∙ ap₂ (λ g c. set.union (set.difference (owned_by live.owners m) g) c) gone_is changes_are in
    let owners_are = left ∙ ap (λ x. taken_over live.owners x lost mine) same ∙ ap₂ (taken_over live.owners m) lost_all mine_all in
    λ i. record { content = new; owners = owners_are i }

-- ---- what stands and who owns it, after an update
or_left : (a b : Bool) → a ≡ true → (a || b) ≡ true
or_left a b e = ap (λ x. x || b) e

or_right : (a b : Bool) → b ≡ true → (a || b) ≡ true
or_right true b e = refl
or_right false b e = e

and_not : (a b : Bool) → (a && not b) ≡ false → a ≡ true → b ≡ true
and_not true true e t = refl
and_not true false e t = absurd (true≢false e)
and_not false b e t = absurd (true≢false (sym t))

and_none : (a b : Bool) → b ≡ true → (a && not b) ≡ false
and_none true b t = ap not t
and_none false b t = refl

not_true : (b : Bool) → not b ≡ true → b ≡ false
not_true true e = sym e
not_true false e = refl

module _ (live : State) (new : Content) (m : Manager) where
  abbrev changes : PathSet
  changes = changed new live.content

  abbrev gone : PathSet
  gone = removed live.content new

  abbrev lost : PathSet
  lost = set.union changes gone

  abbrev mine : PathSet
  mine = set.union (set.difference (owned_by live.owners m) gone) changes

  pub contains-gone : (p : PathTexts) → set.contains gone p ≡ (is_some (fin.get live.content p) && not (is_some (fin.get new p)))
  unfolding removed
  contains-gone p = set.contains-difference path_cmp_total (dom live.content) (dom new) p ∙ ap₂ (λ a b. a && not b) (contains-dom live.content p) (contains-dom new p)

  stays_there : (p : PathTexts) → IsPresent live.content p → set.contains gone p ≡ false → IsPresent new p
  stays_there p there free = and_not (is_some (fin.get live.content p)) (is_some (fin.get new p)) (sym (contains-gone p) ∙ free) there

  pub contains-mine : (p : PathTexts) → set.contains mine p ≡ ((set.contains (owned_by live.owners m) p && not (set.contains gone p)) || set.contains changes p)
  contains-mine p =
      set.contains-union path_cmp_total (set.difference (owned_by live.owners m) gone) changes p ∙ ap (λ b. b || set.contains changes p) (set.contains-difference path_cmp_total (owned_by live.owners m) gone p)

  mine_stands : OwnedArePresent live → (p : PathTexts) → set.contains mine p ≡ true → IsPresent new p
  mine_stands before p is = by_change (set.contains changes p) refl (sym (contains-mine p) ∙ is)
    where
      or_false : (a : Bool) → (a || false) ≡ true → a ≡ true
      or_false true e = refl
      or_false false e = e

      by_change : (b : Bool) → set.contains changes p ≡ b → ((set.contains (owned_by live.owners m) p && not (set.contains gone p)) || set.contains changes p) ≡ true → IsPresent new p
      by_change true is h = left_true (is_some (fin.get new p)) (not (same_value (fin.get new p) (fin.get live.content p))) (sym (contains-changed new live.content p) ∙ is)
      by_change false is h =
          let kept = or_false (set.contains (owned_by live.owners m) p && not (set.contains gone p)) (ap (λ b. (set.contains (owned_by live.owners m) p && not (set.contains gone p)) || b) (sym is) ∙ h) in
          stays_there p (before m p (left_true (set.contains (owned_by live.owners m) p) _ kept)) (not_true (set.contains gone p) (right_true (set.contains (owned_by live.owners m) p) _ kept))

  not_lost : (p : PathTexts) → set.contains lost p ≡ false → set.contains gone p ≡ false
  not_lost p free = by_or (set.contains changes p) (set.contains gone p) (sym (set.contains-union path_cmp_total changes gone p) ∙ free)
    where
      by_or : (a b : Bool) → (a || b) ≡ false → b ≡ false
      by_or true b e = absurd (true≢false e)
      by_or false b e = e

  owned_stand_by : OwnedArePresent live → (k : Manager) (p : PathTexts) (b : Bool) → is_same m k ≡ b → Owns (updated live new m) k p → IsPresent new p
  unfolding updated
  owned_stand_by before k p true same is =
      mine_stands before p (ap (λ s. set.contains s p) (sym (owned_mine live.owners m lost mine) ∙ ap (owned_by (taken_over live.owners m lost mine)) (same_manager-is m k same)) ∙ is)
  owned_stand_by before k p false other is =
      let both = sym (set.contains-difference path_cmp_total (owned_by live.owners k) lost p) ∙ ap (λ s. set.contains s p) (sym (owned_other live.owners m lost mine k other)) ∙ is in
      stays_there p (before k p (left_true (set.contains (owned_by live.owners k) p) _ both)) (not_lost p (not_true (set.contains lost p) (right_true (set.contains (owned_by live.owners k) p) _ both)))

  pub updated_stand : OwnedArePresent live → OwnedArePresent (updated live new m)
  unfolding updated
  updated_stand before k p is = owned_stand_by before k p (is_same m k) refl is

  -- ---- leaves
  owns_mine : (p : PathTexts) → set.contains mine p ≡ true → Owns (updated live new m) m p
  unfolding updated
  owns_mine p is = ap (λ s. set.contains s p) (owned_mine live.owners m lost mine) ∙ is

  owns_other : (k : Manager) (p : PathTexts) → is_same m k ≡ false → Owns live k p → set.contains lost p ≡ false → Owns (updated live new m) k p
  unfolding updated
  owns_other k p other is free =
      ap (λ s. set.contains s p) (owned_other live.owners m lost mine k other) ∙ set.contains-difference path_cmp_total (owned_by live.owners k) lost p ∙ both_true _ _ is (ap not free)

  owner_then : (p : PathTexts) → set.contains changes p ≡ false → set.contains gone p ≡ false → (k : Manager) (b : Bool) → is_same m k ≡ b → Owns live k p → (k : Manager) × Owns (updated live new m) k p
  owner_then p same stays k true is owned =
      let mine_is = both_true _ _ (ap (λ x. set.contains (owned_by live.owners x) p) (same_manager-is m k is) ∙ owned) (ap not stays) in
      (m, owns_mine p (contains-mine p ∙ or_left (set.contains (owned_by live.owners m) p && not (set.contains gone p)) (set.contains changes p) mine_is))
  owner_then p same stays k false is owned = (k, owns_other k p is owned (set.contains-union path_cmp_total changes gone p ∙ ap₂ (λ a b. a || b) same stays))

  updated_leaves : (s : Shape) → LeavesOwned s live (updated live new m)
  unfolding updated
  updated_leaves s p there end = by_change (set.contains changes p) refl
    where
      now : is_some (fin.get new p) ≡ true
      now = there

      by_change : (b : Bool) → set.contains changes p ≡ b → ((k : Manager) × Owns (updated live new m) k p) ⊎ StoodUnowned live (updated live new m) p
      by_change true is = inl (m, owns_mine p (contains-mine p ∙ or_right (set.contains (owned_by live.owners m) p && not (set.contains gone p)) (set.contains changes p) is))
      by_change false is =
          let alike = same_value-is (fin.get new p) (fin.get live.content p) (and_not (is_some (fin.get new p)) (same_value (fin.get new p) (fin.get live.content p)) (sym (contains-changed new live.content p) ∙ is) now) in
          by_owned (contains-gone p ∙ and_none (is_some (fin.get live.content p)) (is_some (fin.get new p)) now) alike (owned_or_not live p)
        where
          by_owned : set.contains gone p ≡ false → fin.get new p ≡ fin.get live.content p → ((k : Manager) × Owns live k p) ⊎ ((k : Manager) → ¬ (Owns live k p))
              → ((k : Manager) × Owns (updated live new m) k p) ⊎ StoodUnowned live (updated live new m) p
          by_owned stays alike (inl owner) = inl (owner_then p is stays owner.0 (is_same m owner.0) refl owner.1)
          by_owned stays alike (inr nobody) = inr (alike, nobody)

-- ---- of the state that an update answers
module _ (live : State) (new : Content) (m : Manager) (after : State) (is : after ≡ updated live new m) where
  pub update_stands : OwnedArePresent live → OwnedArePresent after
  update_stands before = subst OwnedArePresent (sym is) (updated_stand live new m before)

  pub update_leaves : (s : Shape) → LeavesOwned s live after
  update_leaves s = subst (LeavesOwned s live) (sym is) (updated_leaves live new m s)
