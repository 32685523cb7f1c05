-- An event that a hub handles, without what it did.
use Rattle.std.proofs.Common.{◌≡◌, List, Result}
use Rattle.std.specs.Prelude.{IfOk}
use Rattle.httpedge.specs.Effects.{Does}
use Rattle.httpedge.specs.HubViews.{IsActionOf, HubRepresents, outcome_of}
use Rattle.httpedge.specs.Runs.{Follows, Action}
use Rattle.httpedge.specs.Steps.{Event, State}
use Rattle.httpedge.specs.declared.effect.Effect.{Effect}
use Rattle.httpedge.specs.declared.fault.HubFault.{HubFault}
use Rattle.httpedge.specs.declared.hub.Hub.{Hub}
use Rattle.httpedge.proofs.Handed.{FollowsBy}

-- what a step of the hub promises
abbrev pub StepsBy : Hub → Event → Result Effect HubFault → Hub → Type 0
StepsBy x e r y = (s : State) → HubRepresents x s → (h : Action) × (t : State) × IsActionOf e (outcome_of r) h × Follows s h t × IfOk r (Does s e t) × HubRepresents y t

pub follows_by : (x y : Hub) (e : Event) (r : Result Effect HubFault) → StepsBy x e r y → FollowsBy x e r y
follows_by x y e r steps = λ s is.
    let one = steps s is in
    (one.0, one.1, one.2, one.3, one.5)
