use Rattle.fieldset.proofs.Owning.{object-is_empty}
use Rattle.fieldset.proofs.values.is_empty.Goals as goal

pub returns : goal.returns
returns c = object-is_empty c.is_empty.result c.args.members.now.entries c.is_empty.ensures.0 c.is_empty.ensures.1
