use Rattle.json_patch.proofs.Failing.{changes_nothing}
use Rattle.json_patch.proofs.patch_laws.tests_change_nothing.Goals as goal

pub returns : goal.returns
returns c = changes_nothing
