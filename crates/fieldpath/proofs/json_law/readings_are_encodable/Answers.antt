use Rattle.fieldpath.proofs.Encodable.{encodable-read}
use Rattle.fieldpath.proofs.json_law.readings_are_encodable.Goals as goal

pub returns : goal.returns
returns c = encodable-read
