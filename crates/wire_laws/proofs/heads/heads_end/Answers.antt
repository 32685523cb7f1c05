use Rattle.wire_laws.proofs.HeadEnds.{no_end, one_end}
use Rattle.wire_laws.proofs.heads.heads_end.Goals as goal

pub returns : goal.returns
returns c = record { one = one_end; none = no_end }
