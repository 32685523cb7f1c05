use Rattle.json_patch.proofs.Again.{twice_is_once}
use Rattle.json_patch.proofs.merge_laws.merging_twice_is_merging_once.Goals as goal

pub returns : goal.returns
returns c = λ target patch all names. twice_is_once patch target all names
