use Rattle.std.proofs.Common.{refl}
use Rattle.httpedge.specs.Steps.{retypes}
use Rattle.serde_json.specs.View.{view}
use Rattle.observing.proofs.Stepped.{follows_by}
use Rattle.polling.proofs.Leading.{answers_then, unasked_any, unasked_event, unasked_then}
use Rattle.polling.proofs.peers.Peers.retype.Goals as goal

pub returns-clause-answers : goal.returns-clause-answers
returns-clause-answers g c =
    answers_then _ _ _ (retypes (view c.args.file)) c.step-done.result c.step-done.ensures.reported c.step-done.ensures.refused
    (follows_by _ _ _ c.step-done.result c.step-done.ensures.follows) (unasked_any _ _ c.settle.ensures)

pub returns-clause-reaches : goal.returns-clause-reaches
returns-clause-reaches g c = unasked_then _ _ _ (unasked_event _ _ (retypes (view c.args.file)) c.step-done.ensures.hands refl) c.settle.ensures
