-- What is cached, by a type and by its number; what is printed is cached rightly.
use Rattle.std.proofs.Common.{◌≡◌, Ok, Err, Option, Some, None, sym, subst, ◌∙◌, List, ℕ, suc}
use Rattle.std.specs.Prelude.{◌<◌, IfOk, IfSome, OnOk, slice_get, string_bytes}
use Rattle.std.specs.declared.result.Result.{Result}
use Rattle.schema.specs.ObjectShape.{IsObjectShape}
use Rattle.api_types.specs.TypesFile.{ServedShape}
use Rattle.history.specs.History.{Key, last_revision}
use Rattle.objects.specs.State.{State}
use Rattle.objects.specs.WellTyped.{IsWellTypedState}
use Rattle.objects.proofs.Taken.{same_some}
use Rattle.api_request.specs.declared.calls.Plan.{Plan as ThePlan}
use Rattle.verbs.specs.declared.cached.CachedState.{CachedState}
use Rattle.verbs.specs.declared.cached.PlannedStates.{PlannedStates}
use Rattle.verbs.specs.CachedStateViews.{AreCoherentOf, IsCoherent, IsCoherentAt, IsDecodedFrom, IsSystemFrom}
use Rattle.verbs.specs.Step.{text_at}
use Rattle.verbs.proofs.Said.{printed_says, printed_system}

pub right_of : (types : List ServedShape) (kind : ℕ) (t : ServedShape) (known : Option CachedState) → slice_get types kind ≡ Some t
    → IfSome known (IsCoherentAt types kind) → IfSome known (IsCoherent t)
right_of types kind t None is coherent = tt
right_of types kind t (Some r) is coherent = coherent t is

pub right_at : (types : List ServedShape) (kind : ℕ) (t : ServedShape) (known : Option CachedState) → slice_get types kind ≡ Some t
    → IfSome known (IsCoherent t) → IfSome known (IsCoherentAt types kind)
right_at types kind t None is coherent = tt
right_at types kind t (Some r) is coherent = λ u at. subst (λ (x : ServedShape). IsCoherent x r) (same_some t u (sym is ∙ at)) coherent

-- the same of both states that a plan leaves
pub both_of : (types : List ServedShape) (kind : ℕ) (t : ServedShape) (states : PlannedStates) → slice_get types kind ≡ Some t
    → IfSome states.standing (IsCoherentAt types kind) × IfSome states.stored (IsCoherentAt types kind) → AreCoherentOf t states
both_of types kind t states is coherent = (right_of types kind t states.standing is coherent.0, right_of types kind t states.stored is coherent.1)

pub both_at : (types : List ServedShape) (kind : ℕ) (t : ServedShape) (states : PlannedStates) → slice_get types kind ≡ Some t
    → AreCoherentOf t states → IfSome states.standing (IsCoherentAt types kind) × IfSome states.stored (IsCoherentAt types kind)
both_at types kind t states is coherent = (right_at types kind t states.standing is coherent.0, right_at types kind t states.stored is coherent.1)

-- the answer to a write that is stored has the text that says its state
pub answer_says : {E : Type 0} (t : ServedShape) (k : Key) (n : ℕ) (s : State) (text : List ℕ) (r : Result ThePlan E) → IsObjectShape t.shape → IsWellTypedState t.shape s
    → text ≡ text_at t k (suc n) s → OnOk r (n < last_revision) → IfOk r (λ p. string_bytes p.answer.body ≡ text) → IfOk r (λ p. IsDecodedFrom t (string_bytes p.answer.body) s)
answer_says t k n s text (Err e) shaped well_typed is low same = tt
answer_says t k n s text (Ok p) shaped well_typed is low same = subst (λ x. IsDecodedFrom t x s) (sym (same ∙ is)) (printed_says t k (suc n) s shaped well_typed low)

-- .. and the system says nothing in it but the version
pub answer_system : {E : Type 0} (t : ServedShape) (k : Key) (n : ℕ) (s : State) (text : List ℕ) (r : Result ThePlan E) → IsObjectShape t.shape → IsWellTypedState t.shape s
    → text ≡ text_at t k (suc n) s → OnOk r (n < last_revision) → IfOk r (λ p. string_bytes p.answer.body ≡ text) → IfOk r (λ p. IsSystemFrom t (string_bytes p.answer.body) None)
answer_system t k n s text (Err e) shaped well_typed is low same = tt
answer_system t k n s text (Ok p) shaped well_typed is low same = subst (λ x. IsSystemFrom t x None) (sym (same ∙ is)) (printed_system t k (suc n) s shaped well_typed low)
