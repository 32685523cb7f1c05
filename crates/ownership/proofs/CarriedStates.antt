-- Each placed state is carried, and to its own schema as it is.
use Rattle.std.proofs.Common.{◌≡◌, ◌==◌, Bool, true, false, cond, not, ◌&&◌, ◌||◌, Option, Some, None, is_some, refl, sym, ap, ap₂, ◌∙◌, subst, true≢false, unwrap_or}
use Rattle.std.specs.FinMap as fin
use Rattle.std.specs.FinSet as set
use Rattle.std.proofs.lemmas.Bool.{and_parts}
use Rattle.fieldpath.specs.Paths.{PathTexts, path_cmp}
use Rattle.pathmap.specs.Beside.{has_at_or_below}
use Rattle.pathmap.specs.Contents.{Content, PathSet, dom}
use Rattle.pathmap.proofs.Contents.{path_cmp_total}
use Rattle.pathmap.proofs.Sets.{contains-dom, same_paths}
use Rattle.schema.specs.Becoming.{may_become}
use Rattle.schema.specs.Lawful.{is_well_formed}
use Rattle.schema.specs.ObjectShape.{IsObjectShape}
use Rattle.schema.specs.Shape.{Shape}
use Rattle.typed.specs.Carried.{carried, content_or_nothing, content_printed}
use Rattle.typed.specs.WellTyped.{IsWellTyped, ReadsBack}
use Rattle.typed.specs.Printing.{print}
use Rattle.typed.proofs.CarriedPaths.{is_carried, still_there}
use Rattle.typed.proofs.Carries.{lawful_carries}
use Rattle.typed.proofs.Carrying.{carried_parts}
use Rattle.typed.proofs.Fitting.{contents_well_typed}
use Rattle.typed.proofs.RoundTrip.{round}
use Rattle.objects.specs.Carried.{carried_owners, carried_paths}
use Rattle.objects.specs.Owners.{HavePaths, Manager, Owners, owned_by}
use Rattle.objects.specs.WellTyped.{IsWellTypedState}
use Rattle.objects.specs.State.{State}
use Rattle.objects.proofs.Moving.{carried_have_paths, contains-carried, owned-carried}
use Rattle.objects.proofs.Orders.{manager_antisymmetric, manager_total}
use Rattle.objects.proofs.Taking.{kept}
use Rattle.ownership.specs.Carry.{Carries, carried_state, made, with_content}
use Rattle.ownership.proofs.Carried.{carries}

is_formed : (s : Shape) → IsObjectShape s → is_well_formed s ≡ true
is_formed s is = (and_parts (is_well_formed s) _ is.1).0

is_well_typed : (s : Shape) (old : State) → IsObjectShape s → IsWellTypedState s old → IsWellTyped s old.content
is_well_typed s old is well_typed = (contents_well_typed s old.content (is_formed s is)).0 well_typed.0

-- what was printed of a content reads as it
read_back : (s t : Shape) (c r : Content) → ReadsBack t (print s c) r → content_printed t (print s c) ≡ r
read_back s t c r = elim (print s c) as (λ o. ReadsBack t o r → content_printed t o ≡ r) [ None ↦ λ is. sym is | Some d ↦ λ is. ap content_or_nothing is.1 ]

module _ (s t : Shape) (old : State) (was : IsObjectShape s) (object : IsObjectShape t) (to : may_become s t ≡ true) (well_typed : IsWellTypedState s old) where
  parts_read : carried_parts s t old.content ≡ carried s t old.content
  unfolding carried
  parts_read =
      let carry = lawful_carries s t was.1 (is_formed t object) to old.content (is_well_typed s old was well_typed) in
      sym (read_back s t old.content (carried_parts s t old.content) (subst (λ o. ReadsBack t o (carried_parts s t old.content)) carry.1 (round t (carried_parts s t old.content) (is_formed t object) carry.0)))

  pub carried_carries : Carries s t old (carried_state s t old)
  carried_carries =
      let formed = is_formed t object in
      let there = is_well_typed s old was well_typed in
      let made_of = carried_parts s t old.content in
      let carry = lawful_carries s t was.1 formed to old.content there in
      let all = carries s t old made_of (is_formed s was) object well_typed parts_read (is_carried s t was.1 formed to old.content there) ((contents_well_typed t made_of formed).1 carry.0) (still_there s t was.1 formed to old.content there) in
      subst (Carries s t old) all.is all

-- ---- to its own schema

-- what a manager has an entry for
owned_entry : (w : Owners) → HavePaths w → (k : Manager) → fin.get w k ≡ kept (owned_by w k)
unfolding owned_by
owned_entry w have k = by_entry (fin.get w k) refl
  where
    by_entry : (o : Option PathSet) → fin.get w k ≡ o → o ≡ kept (unwrap_or o set.empty)
    by_entry None is = sym (ap (λ n. cond (n == 0) None (Some set.empty)) (set.len-empty path_cmp))
    by_entry (Some paths) is = sym (ap (λ b. cond b None (Some paths)) (have k paths is))

abbrev with_owners : State → Owners → State
with_owners old w = record { content = old.content; owners = w }

module _ (s : Shape) (old : State) (was : IsObjectShape s) (well_typed : IsWellTypedState s old) where
  content_stays : carried s s old.content ≡ old.content
  unfolding carried
  content_stays = read_back s s old.content old.content (round s old.content (is_formed s was) (is_well_typed s old was well_typed))

  -- no leaf was made, and each owned path stands
  paths_stay : (k : Manager) → carried_paths (dom old.content) (made old.content old.content) (owned_by old.owners k) ≡ owned_by old.owners k
  paths_stay k = same_paths (carried_paths (dom old.content) (made old.content old.content) (owned_by old.owners k)) (owned_by old.owners k) (λ q.
      contains-carried (dom old.content) (made old.content old.content) (owned_by old.owners k) q
      ∙ ap₂ (λ a b. (set.contains (owned_by old.owners k) q && a) || (b && has_at_or_below (owned_by old.owners k) q)) (contains-dom old.content q)
      (set.contains-difference path_cmp_total (dom old.content) (dom old.content) q)
      ∙ by_tests q (set.contains (owned_by old.owners k) q) refl (is_some (fin.get old.content q)) refl (set.contains (dom old.content) q))
    where
      by_tests : (q : PathTexts) (a : Bool) → set.contains (owned_by old.owners k) q ≡ a → (b : Bool) → is_some (fin.get old.content q) ≡ b → (c : Bool)
          → ((a && b) || ((c && not c) && has_at_or_below (owned_by old.owners k) q)) ≡ a
      by_tests q true own true there true = refl
      by_tests q true own true there false = refl
      by_tests q true own false there c = absurd (true≢false (sym (well_typed.1.1 k q own) ∙ there))
      by_tests q false own b there true = refl
      by_tests q false own b there false = refl

  owners_stay : carried_owners (dom old.content) (made old.content old.content) old.owners ≡ old.owners
  owners_stay =
      let now = carried_owners (dom old.content) (made old.content old.content) old.owners in
      fin.same_map manager_total manager_antisymmetric now old.owners (λ k.
      owned_entry now (carried_have_paths (dom old.content) (made old.content old.content) old.owners) k
      ∙ ap kept (owned-carried (dom old.content) (made old.content old.content) old.owners k ∙ paths_stay k)
      ∙ sym (owned_entry old.owners well_typed.1.0 k))

  pub carried_same : carried_state s s old ≡ old
  unfolding carried_state
  carried_same = ap (with_content old) content_stays ∙ ap (with_owners old) owners_stay
