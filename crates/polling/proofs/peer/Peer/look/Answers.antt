use Rattle.polling.proofs.Leading.{talks}
use Rattle.polling.proofs.peer.Peer.look.Goals as goal

pub returns : goal.returns
returns g c =
    (c.hand_over-read.new.reader, c.flush-next.ensures.0, talks _ _ _ _ _ c.flush-next.ensures.1 _ _ _ c.hand_over-read.ensures c.flush-next.ensures.2 c.flush-next.ensures.3)
