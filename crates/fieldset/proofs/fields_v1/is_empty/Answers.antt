use Rattle.fieldset.proofs.Lent.{slice-is_empty}
use Rattle.fieldset.proofs.fields_v1.is_empty.Goals as goal

pub returns : goal.returns
returns c = slice-is_empty c.is_empty.result c.args.members.now c.is_empty.ensures
