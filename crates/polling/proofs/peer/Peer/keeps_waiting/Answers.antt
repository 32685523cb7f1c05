use Rattle.polling.proofs.Leading.{clash}
use Rattle.polling.proofs.peer.Peer.keeps_waiting.Goals as goal

pub returns-then-self : goal.returns-then-self
returns-then-self g c = λ s is waits out lingers. absurd (clash c.args.self.now.is_lingering lingers c.if-self.true)
