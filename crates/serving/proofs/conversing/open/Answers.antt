use Rattle.std.proofs.Common.{refl}
use Rattle.httpedge.specs.Steps.{opens}
use Rattle.serving.proofs.Joining.{serves_event}
use Rattle.serving.proofs.conversing.open.Goals as goal

pub returns-then-not-hand : goal.returns-then-not-hand
returns-then-not-hand g c = serves_event _ _ _ (opens c.args.id) refl c.hand.ensures.hands

pub returns : goal.returns
returns g c = serves_event _ _ _ (opens c.args.id) refl c.hand.ensures.hands
