use Rattle.std.proofs.Common.{◌≡◌, sym, ap, ◌∙◌, subst}
use Rattle.std.specs.FinMap as fin
use Rattle.std.specs.Prelude.{filter}
use Rattle.objects.specs.Owners.{HavePaths, less, taken_over, manager_cmp}
use Rattle.objects.specs.Managers.{pairs, manager_view}
use Rattle.objects.proofs.Entries.{is_other, empty_is, from-entries, owners_left, owners_more}
use Rattle.objects.proofs.Taking.{taken_have_paths}
use Rattle.objects.proofs.managers.Managers.taken_over.Goals as goal
use Rattle.objects.proofs.managers.Managers.taken_over.Goals.{then-is_empty, else-is_empty+in_ok-entries}

are_owners : (c : goal.Joined-is_empty) → pairs c.if-is_empty.entries.items ≡ fin.entries (taken_over c.args.self.now (manager_view c.args.manager) c.args.lost.now c.args.mine)
are_owners c =
    let w = c.args.self.now in
    let m = manager_view c.args.manager in
    let lost = c.args.lost.now in
    let mine = c.args.mine in
    let left = c.in_ok-left.left in
    let is : pairs left.items ≡ less lost (filter (is_other m) (fin.entries w)) =
    c.in_ok-left.ensures ∙ ap (λ l. less lost (filter (is_other m) l)) (ap pairs c.deref.ensures.value ∙ sym c.self.invariant.0 ∙ ap fin.entries c.self.view_is) in
    let emptiness = empty_is mine c.is_empty.result c.is_empty.ensures in
    elim c.if-is_empty.branch [
      | then-is_empty w' ↦ owners_left w m lost mine (pairs left.items) _ is (ap (λ v. pairs v.items) w'.entries-is) (emptiness ∙ w'.if-is_empty.true)
      | else-is_empty+in_ok-entries w' ↦ owners_more w m lost mine (pairs left.items) _ is (ap (λ v. pairs v.items) w'.entries-is ∙ w'.in_ok-entries.ensures) (emptiness ∙ w'.if-is_empty.false)
    ]

pub invariant_of-result : goal.invariant_of-result
invariant_of-result c =
    let w = c.args.self.now in
    let m = manager_view c.args.manager in
    let back = from-entries (taken_over w m c.args.lost.now c.args.mine) in
    subst (λ es. (fin.entries (fin.from_entries {R = manager_cmp} es) ≡ es) × HavePaths (fin.from_entries {R = manager_cmp} es)) (sym (are_owners c)) (ap fin.entries back, subst HavePaths (sym back) (taken_have_paths w m c.args.lost.now c.args.mine))

pub returns : goal.returns
returns c = ap (λ es. fin.from_entries {R = manager_cmp} es) (are_owners c) ∙ from-entries _
