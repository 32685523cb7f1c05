use Rattle.httpedge.specs.Steps.{opens}
use Rattle.polling.proofs.Leading.{any_none, any_same, any_then, reaches_by_any, unasked_all, unasked_any}
use Rattle.polling.proofs.peers.Peers.open.Goals as goal

pub returns-in_default : goal.returns-in_default
returns-in_default g c = any_none _

pub returns-then-not-hand : goal.returns-then-not-hand
returns-then-not-hand g c = any_then _ _ _ (reaches_by_any _ _ (opens c.in-Some.id) c.hand.ensures.hands) (any_same _ _ c.count_closed.ensures)

pub returns-then-is_err : goal.returns-then-is_err
returns-then-is_err g c =
    any_then _ _ _ (reaches_by_any _ _ (opens c.in-Some.id) c.hand.ensures.hands)
    (any_then _ _ _ (unasked_any _ _ (unasked_all _ _ _ c.part.ensures)) (any_same _ _ c.count_closed-then-is_err.ensures))

pub returns : goal.returns
returns g c = any_then _ _ _ (reaches_by_any _ _ (opens c.in-Some.id) c.hand.ensures.hands) c.look.ensures
