use Rattle.verbs.proofs.Promise.{applies_keep_others}
use Rattle.verbs.proofs.laws.applies_keep_others.Goals as goal

pub returns : goal.returns
returns c = applies_keep_others
