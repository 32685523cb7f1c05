use Rattle.httpedge.proofs.Handed.{hands_event}
use Rattle.observing.proofs.Stepped.{follows_by}
use Rattle.observing.proofs.handing.step.Goals as goal

pub returns-clause-hands : goal.returns-clause-hands
returns-clause-hands g c = hands_event _ _ _ c.step-done.result (follows_by _ _ _ c.step-done.result c.step-done.ensures.follows)
