use Rattle.std.proofs.Common.{Some, ap}
use Rattle.httpedge.proofs.NextTurns.{told_current, told_none}
use Rattle.world.proofs.server.Server.current.Goals as goal

pub returns-in_default : goal.returns-in_default
returns-in_default c = λ s serves. absurd (told_none c.in_default.field-0 (s.machine.current, s.machine.compacted) c.marks.result c.in_default.is (c.marks.ensures s serves.0.0))

pub returns : goal.returns
returns c = λ s serves. ap Some (told_current c.in-Ok.current _ (s.machine.current, s.machine.compacted) c.marks.result c.in-Ok.is (c.marks.ensures s serves.0.0))
