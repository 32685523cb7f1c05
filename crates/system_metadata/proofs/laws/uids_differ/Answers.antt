use Rattle.system_metadata.proofs.UidDigits.{same_uid}
use Rattle.system_metadata.proofs.laws.uids_differ.Goals as goal

pub returns : goal.returns
returns c = λ e r f s one other. same_uid e r f s one.0 other.0 one.1 other.1
