use Rattle.std.proofs.Common.{◌∙◌, sym}
use Rattle.httpedge.proofs.Handed.{done_event}
use Rattle.observing.proofs.Stepped.{follows_by}
use Rattle.observing.proofs.handing.hand.Goals as goal

pub returns-clause-done : goal.returns-clause-done
returns-clause-done g c = λ well. done_event _ _ _ c.step.result c.step.ensures.refused (follows_by _ _ _ c.step.result c.step.ensures.follows) (sym c.is_ok.ensures.value ∙ well)
