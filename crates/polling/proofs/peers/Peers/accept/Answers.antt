use Rattle.polling.proofs.Leading.{any_same, any_then}
use Rattle.polling.proofs.peers.Peers.accept.Goals as goal

pub returns-in_default : goal.returns-in_default
returns-in_default g c = any_same _ _ c.next_stream.ensures

pub returns : goal.returns
returns g c = any_then _ _ _ (any_same _ _ c.next_stream.ensures) c.open.ensures
