use Rattle.std.proofs.Common.{◌≡◌, ◌∷◌, ◌++◌, [], sym, ap, subst, ◌∙◌}
use Rattle.std.specs.Prelude.{⊤}
use Rattle.httpedge.specs.declared.effect.Effect.{Effect}
use Rattle.httpedge.specs.HubViews.{HubRepresents, IsActionOf, Outcome, event_of, outcome_of}
use Rattle.httpedge.specs.Runs.{Action, Runs}
use Rattle.httpedge.specs.Steps.{State}
use Rattle.httpedge.proofs.Ended.{FollowsIn, same_fault}
use Rattle.httpedge.proofs.hub.Hub.on.Goals as goal
use Rattle.httpedge.proofs.hub.Hub.on.Goals.{in-Ok, in-Err}

-- without what it did it ends the same
same : (c : goal.Joined-step-2) → outcome_of c.step.result ≡ outcome_of c.match-step.result
same c =
    elim c.match-step.branch [
      | in-Ok w ↦ ap outcome_of w.in-Ok.is ∙ sym (ap outcome_of w.result-is)
      | in-Err w ↦ ap outcome_of w.in-Err.is ∙ same_fault Effect ⊤ w.in-Err.fault ∙ sym (ap outcome_of w.result-is)
    ]

pub returns-clause-follows : goal.returns-clause-follows
returns-clause-follows c = λ s is.
    let stepped = c.step.ensures.follows s is in
    subst (λ (o : Outcome). FollowsIn o s (event_of c.args.event.now) c.step.new.self) (same c) (stepped.0, stepped.1, stepped.2, stepped.3, stepped.5)

pub returns-clause-runs : goal.returns-clause-runs
returns-clause-runs c = λ r s before ran is.
    subst (λ (o : Outcome). (h : Action) × (t : State) × IsActionOf (event_of c.args.event.now) o h × Runs r (before ++ h ∷ []) t × HubRepresents c.step.new.self t) (same c)
    (c.step.ensures.runs r s before ran is)
