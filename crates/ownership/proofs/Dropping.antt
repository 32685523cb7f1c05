-- What an apply drops.
use Rattle.std.proofs.Common.{◌≡◌, Bool, true, false, not, ◌&&◌, List, Some, None, refl, sym, ap, ap₂, ◌∙◌}
use Rattle.std.specs.FinMap as fin
use Rattle.std.specs.FinSet as set
use Rattle.std.specs.Option.{unwrap_or}
use Rattle.fieldpath.specs.Paths.{path_cmp}
use Rattle.pathmap.specs.Contents.{Content, PathSet, dom, over}
use Rattle.pathmap.specs.Beside.{has_at_or_below, clear_of, changed, without}
use Rattle.pathmap.proofs.Contents.{path_cmp_total, path_cmp_antisymmetric}
use Rattle.pathmap.proofs.Sets.{same_paths}
use Rattle.objects.specs.Owners.{Manager, Owners, owned_by, others, taken_over}
use Rattle.objects.specs.State.{State}
use Rattle.ownership.specs.Apply.{Conflict, conflicts_with, conflicts, all_paths, dropped, applied}

false-and : (b c : Bool) → b ≡ false → (b && c) ≡ false
false-and b c e = ap (λ x. x && c) e

pub clear_of-empty : (t : PathSet) → clear_of set.empty t ≡ set.empty
unfolding clear_of
clear_of-empty t = set.same_set path_cmp_total path_cmp_antisymmetric _ _ (λ q.
    set.contains-retain set.empty (λ p. not (has_at_or_below t p)) q (λ x e. ap (λ p. not (has_at_or_below t p)) (sym (path_cmp_antisymmetric q x e)))
    ∙ false-and (set.contains set.empty q) _ (set.contains-empty path_cmp q) ∙ sym (set.contains-empty path_cmp q))

module _ (live : State) (body : Content) (m : Manager) where
  pub dropped_some : (owned : PathSet) → fin.get live.owners m ≡ Some owned → dropped live body m ≡ clear_of owned (all_paths (dom body) (others live.owners m))
  unfolding dropped owned_by
  dropped_some owned is = ap (λ o. clear_of (unwrap_or o set.empty) (all_paths (dom body) (others live.owners m))) is

  pub dropped_none : fin.get live.owners m ≡ None → dropped live body m ≡ set.empty
  unfolding dropped owned_by
  dropped_none is = ap (λ o. clear_of (unwrap_or o set.empty) (all_paths (dom body) (others live.owners m))) is ∙ clear_of-empty _

-- the paths that two sets have both, whichever of them is walked
pub intersection-turned : (s t : PathSet) → set.intersection s t ≡ set.intersection t s
intersection-turned s t = same_paths (set.intersection s t) (set.intersection t s) (λ q.
    set.contains-intersection path_cmp_total s t q ∙ and_turned (set.contains s q) (set.contains t q) ∙ sym (set.contains-intersection path_cmp_total t s q))
  where
    and_turned : (a b : Bool) → (a && b) ≡ (b && a)
    and_turned true true = refl
    and_turned true false = refl
    and_turned false true = refl
    and_turned false false = refl

-- ---- an apply, from what its steps gave
module _ (live : State) (body : Content) (m : Manager) (changes : PathSet) (is : changes ≡ changed body live.content) where
  pub conflicts_are : (cs : List Conflict) (k : Manager) → k ≡ m → cs ≡ conflicts_with changes (others live.owners k) → cs ≡ conflicts live body m
  unfolding conflicts
  conflicts_are cs k same e = e ∙ ap₂ (λ s x. conflicts_with s (others live.owners x)) is same

  pub state_is : (k : Manager) (c : Content) (w : Owners) (merged : Content) (gone mine : PathSet) → k ≡ m → merged ≡ over body live.content → gone ≡ dropped live body k → c ≡ without merged gone → mine ≡ dom body
      → w ≡ taken_over live.owners k changes mine → record { content = c; owners = w } ≡ applied live body m
  unfolding applied
  state_is k c w merged gone mine same put_over were taken own left =
      let content_is = taken ∙ ap₂ without put_over (were ∙ ap (dropped live body) same) in
      let owners_is = left ∙ ap (λ x. taken_over live.owners x changes mine) same ∙ ap₂ (taken_over live.owners m) is own in
      λ i. record { content = content_is i; owners = owners_is i }
