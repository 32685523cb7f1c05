-- What a write leaves to the other subresource: the state that it stores is placed, and each manager owns what its subresource writes.
use Rattle.std.proofs.Common.{◌≡◌, ◌∙◌, ℕ, Bool, true, false, cond, List, Option, Some, None, Ok, Err, refl, sym, subst, true≢false}
use Rattle.std.specs.Prelude.{slice_get}
use Rattle.std.specs.FinMap as fin
use Rattle.api_types.specs.Subresources.{is_apart, is_apart_in}
use Rattle.api_types.specs.TypesFile.{ServedShape}
use Rattle.pathmap.specs.Contents.{Content}
use Rattle.typed.specs.Fitting.{IsContent}
use Rattle.history.specs.History.{Key, Object, Objects}
use Rattle.objects.specs.Owners.{Manager, apply_operation, update_operation}
use Rattle.objects.specs.WellTyped.{IsWellTypedState}
use Rattle.objects.specs.State.{State}
use Rattle.objects.specs.SystemMetadata.{stamped}
use Rattle.objects.proofs.Taken.{same_some}
use Rattle.ownership.specs.Apply.{applied, conflicts, is_refused}
use Rattle.ownership.specs.Sides.{OtherSideStays, OwnSides, beside_others, own_part}
use Rattle.ownership.proofs.WellTyped.{applied_well_typed, updated_well_typed}
use Rattle.ownership.proofs.Sides.{applied_apart, applied_sides, beside_content, own_content, updated_apart, updated_sides}
use Rattle.verbs.specs.Machine.{AreTexts, no_state, state_by, state_of_existing, decoded_state, state_under}
use Rattle.verbs.specs.Step.{Intent, conflict_refusal, manager_for, ownership_validated, updated_by}
use Rattle.api_request.proofs.Checks.{no_err, ok_is}
use Rattle.verbs.proofs.Said.{Shapes, nobody_owns, nothing_well_typed, said_back}

-- a content of the type, with owners of its paths, each of paths that its subresource writes
abbrev pub IsStored : ServedShape → State → Type 0
IsStored t state = IsWellTypedState t.shape state × OwnSides (is_apart t) state

pub nothing_stored : (t : ServedShape) → IsStored t no_state
nothing_stored t = (nothing_well_typed t.shape, λ k p owns. absurd (true≢false (sym owns ∙ nobody_owns k p)))

-- ---- what stands

module _ (types : List ServedShape) (objects : Objects) (shapes : Shapes types) (texts : AreTexts types objects) where
  pub existing_stored : (t : ServedShape) (k : Key) → slice_get types k.kind ≡ Some t → (found : Option Object) → fin.get objects k ≡ found → IsStored t (state_of_existing t found)
  existing_stored t k serves None is = nothing_stored t
  existing_stored t k serves (Some o) is =
      let x = texts k o is in
      let same : x.t ≡ t = same_some x.t t (sym x.served ∙ serves) in
      subst (λ (u : ServedShape). IsStored u (decoded_state u.shape o.body)) same
      (subst (IsStored x.t) (sym (said_back x.t.shape _ (stamped o.revision x.is_text.system) x.is_text.state o.body (shapes k.kind x.t x.served) x.is_text.says)) (x.is_text.says.well_typed, x.is_text.sides))

  by_type : (k : Key) (found : Option ServedShape) → slice_get types k.kind ≡ found → OwnSides (is_apart_in found) (state_by found (fin.get objects k))
  by_type k None is = λ m p owns. absurd (true≢false (sym owns ∙ nobody_owns m p))
  by_type k (Some t) is = (existing_stored t k is (fin.get objects k) refl).1

  pub represents_own : (k : Key) → OwnSides (is_apart_in (slice_get types k.kind)) (state_under types objects k)
  represents_own k = by_type k (slice_get types k.kind) refl

-- ---- an apply

applied_stored : (t : ServedShape) (before : State) (intent : Intent) → IsContent t.shape intent.content → IsStored t before
    → IsStored t (applied before (own_part (is_apart t) intent.subresource intent.content) (manager_for apply_operation intent))
applied_stored t before intent content is =
    let m = manager_for apply_operation intent in (
      applied_well_typed before (own_part (is_apart t) intent.subresource intent.content) m t.shape (own_content (is_apart t) intent.subresource t.shape intent.content content) is.0,
      applied_sides (is_apart t) before intent.content m is.1,
    )

-- what an apply answers is what is applied
owned_is : (P : State → Type 0) (api_version : List ℕ) (before : State) (config : Content) (m : Manager) (is_forced : Bool) (s : State)
    → ownership_validated api_version before config m is_forced ≡ Ok s → P (applied before config m) → P s
owned_is P api_version before config m is_forced s e is = go (is_refused (conflicts before config m) is_forced) e
  where
    go : (b : Bool) → cond b (Err (conflict_refusal api_version (conflicts before config m))) (Ok (applied before config m)) ≡ Ok s → P s
    go true f = no_err _ s f
    go false f = subst P (ok_is _ s f) is

pub owned_stored : (t : ServedShape) (api_version : List ℕ) (before : State) (intent : Intent) (s : State) → IsStored t before → IsContent t.shape intent.content
    → ownership_validated api_version before (own_part (is_apart t) intent.subresource intent.content) (manager_for apply_operation intent) intent.is_forced ≡ Ok s → IsStored t s
owned_stored t api_version before intent s is content e =
    owned_is (IsStored t) api_version before (own_part (is_apart t) intent.subresource intent.content) (manager_for apply_operation intent) intent.is_forced s e (applied_stored t before intent content is)

pub owned_apart : (t : ServedShape) (api_version : List ℕ) (before : State) (intent : Intent) (s : State) → OwnSides (is_apart t) before
    → ownership_validated api_version before (own_part (is_apart t) intent.subresource intent.content) (manager_for apply_operation intent) intent.is_forced ≡ Ok s
    → OtherSideStays (is_apart t) intent.subresource before s
owned_apart t api_version before intent s sides e =
    let m = manager_for apply_operation intent in
    owned_is (OtherSideStays (is_apart t) intent.subresource before) api_version before (own_part (is_apart t) intent.subresource intent.content) m intent.is_forced s e
    (applied_apart (is_apart t) before intent.content m sides)

-- ---- an update

pub updated_stored : (t : ServedShape) (before : State) (intent : Intent) → IsContent t.shape intent.content → IsStored t before → IsStored t (updated_by t intent before)
updated_stored t before intent content is =
    let m = manager_for update_operation intent in (
      updated_well_typed before (beside_others (is_apart t) intent.subresource intent.content before.content) m t.shape
          (beside_content (is_apart t) intent.subresource t.shape intent.content before.content content is.0.0) is.0,
      updated_sides (is_apart t) before intent.content m is.1,
    )

pub updated_by_apart : (t : ServedShape) (before : State) (intent : Intent) → OtherSideStays (is_apart t) intent.subresource before (updated_by t intent before)
updated_by_apart t before intent = updated_apart (is_apart t) before intent.content (manager_for update_operation intent)
