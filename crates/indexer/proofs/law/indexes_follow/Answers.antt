use Rattle.indexer.proofs.Followed.{followed}
use Rattle.indexer.proofs.law.indexes_follow.Goals as goal

pub returns : goal.returns
returns c = λ ks calls. followed ks calls
