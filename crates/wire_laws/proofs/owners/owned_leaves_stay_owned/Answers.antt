use Rattle.wire_laws.proofs.OwnedLeaves.{carries_keep_owners, writes_keep_owners}
use Rattle.wire_laws.proofs.owners.owned_leaves_stay_owned.Goals as goal

pub returns : goal.returns
returns c = record { writes = writes_keep_owners; carries = carries_keep_owners }
