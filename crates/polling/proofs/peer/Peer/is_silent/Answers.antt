use Rattle.polling.proofs.Leading.{clash}
use Rattle.polling.proofs.peer.Peer.is_silent.Goals as goal

pub returns : goal.returns
returns g c = λ s is waits out lingers. absurd (clash c.keeps_waiting.result (c.keeps_waiting.ensures s is waits out lingers) c.if-not-keeps_waiting.false)
