use Rattle.serving.proofs.Joining.{serves_goes}
use Rattle.serving.proofs.conversing.leave.Goals as goal

pub returns : goal.returns
returns g c = serves_goes _ _ _ c.hand.ensures.hands
