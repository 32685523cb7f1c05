use Rattle.std.proofs.Common.{refl}
use Rattle.httpedge.proofs.Representing.{start_in}
use Rattle.httpedge.proofs.connections.Connections.new.Goals as goal

pub returns : goal.returns
returns c = λ types m shared represents. start_in types m shared _ represents c.new.ensures.empty c.new-2.ensures.empty c.new-3.ensures c.new-4.ensures refl
