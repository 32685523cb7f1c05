use Rattle.json_patch.proofs.Unnamed.{unnamed_stays}
use Rattle.json_patch.proofs.merge_laws.unnamed_members_stay.Goals as goal

pub returns : goal.returns
returns c = unnamed_stays
