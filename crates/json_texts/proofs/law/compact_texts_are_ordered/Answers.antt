use Rattle.json_texts.proofs.Ordered.{compact-ordered}
use Rattle.json_texts.proofs.law.compact_texts_are_ordered.Goals as goal

pub returns : goal.returns
returns c = compact-ordered
