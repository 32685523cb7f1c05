use Rattle.fieldpath.proofs.Encodable.{compact-read}
use Rattle.fieldpath.proofs.json_law.compact_texts_read_back.Goals as goal

pub returns : goal.returns
returns c = compact-read
