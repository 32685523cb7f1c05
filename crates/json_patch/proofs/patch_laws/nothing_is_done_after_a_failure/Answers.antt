use Rattle.json_patch.specs.CopiedSize.{copied_limit}
use Rattle.json_patch.proofs.Failing.{fails_from}
use Rattle.json_patch.proofs.patch_laws.nothing_is_done_after_a_failure.Goals as goal

pub returns : goal.returns
returns c = λ operations more whole n. fails_from 0 operations more (whole, copied_limit) n
