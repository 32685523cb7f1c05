use Rattle.serving.proofs.Receiving.{receives_none, receives_then}
use Rattle.serving.proofs.Joining.{serves_comes, serves_none}
use Rattle.serving.proofs.conversing.hand_over.Goals.{in-Ok, in-Err}
use Rattle.serving.proofs.conversing.hand_over.Goals as goal

pub pieces-init : goal.pieces-init
pieces-init g c = receives_none _ _ _

pub pieces-preserved : goal.pieces-preserved
pieces-preserved g c =
    elim c.match-read_some.branch [
      | in-Ok w ↦ rw (w.hub-is) (receives_then _ _ _ _ _ _ _ _ c.pieces.invariant w.in-Ok.ensures (serves_comes _ _ _ _ w.hand.ensures.hands))
      | in-Err w ↦ rw (w.hub-is) (receives_then _ _ _ _ _ _ _ _ c.pieces.invariant w.in-Err.ensures (serves_none _ _))
    ]
