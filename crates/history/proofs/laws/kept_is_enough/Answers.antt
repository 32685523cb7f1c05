use Rattle.history.proofs.Kept.{pruned_is}
use Rattle.history.proofs.Seen.{pruned_writes, pruned_prunes}
use Rattle.history.proofs.laws.kept_is_enough.Goals as goal

pub returns : goal.returns
returns c = record { fresh = λ h is. pruned_is h h.compacted is is.low; writes = pruned_writes; prunes = pruned_prunes }
