use Rattle.history.proofs.Wholes.{whole_compacts, whole_fresh, whole_is, whole_writes}
use Rattle.history.proofs.laws.histories_stay_whole.Goals as goal

pub returns : goal.returns
returns c = record { rising = whole_is; begins = whole_fresh; writes = whole_writes; compacts = whole_compacts }
