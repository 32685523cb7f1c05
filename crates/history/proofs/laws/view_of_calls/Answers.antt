use Rattle.history.proofs.Seen.{view_writes, view_compacts}
use Rattle.history.proofs.laws.view_of_calls.Goals as goal

pub returns : goal.returns
returns c = record { writes = view_writes; compacts = view_compacts }
