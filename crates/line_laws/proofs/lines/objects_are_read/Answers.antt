use Rattle.line_laws.proofs.Objects.{object_read}
use Rattle.line_laws.proofs.lines.objects_are_read.Goals as goal

pub returns : goal.returns
returns c = object_read
