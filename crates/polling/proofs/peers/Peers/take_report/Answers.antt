use Rattle.polling.proofs.Leading.{any_none}
use Rattle.polling.proofs.peers.Peers.take_report.Goals as goal

pub returns-then-eq : goal.returns-then-eq
returns-then-eq g c = any_none _
