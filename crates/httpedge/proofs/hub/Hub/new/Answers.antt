use Rattle.std.proofs.Common.{refl}
use Rattle.httpedge.proofs.hub.Hub.new.Goals as goal

pub returns : goal.returns
returns c = λ types m represents. (c.new-2.ensures types m c.new.result (c.new.ensures types m represents), refl)
