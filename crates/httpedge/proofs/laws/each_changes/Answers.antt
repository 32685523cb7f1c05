use Rattle.httpedge.proofs.Connected.{got_each}
use Rattle.httpedge.proofs.laws.each_changes.Goals as goal

pub returns : goal.returns
returns c = got_each
