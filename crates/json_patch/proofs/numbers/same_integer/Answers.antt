use Rattle.json_patch.proofs.Exactly.{same_integers}
use Rattle.json_patch.proofs.numbers.same_integer.Goals as goal

pub returns : goal.returns
returns c = same_integers c.args.a c.args.b
