use Rattle.json_texts.proofs.Ordered.{ordered-read}
use Rattle.json_texts.proofs.law.ordered_texts_are_read.Goals as goal

pub returns : goal.returns
returns c = ordered-read
