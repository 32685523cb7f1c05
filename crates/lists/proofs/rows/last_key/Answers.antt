use Rattle.std.proofs.Common.{◌∙◌, ap}
use Rattle.lists.proofs.Reading.{keyed, last_slot}
use Rattle.lists.proofs.rows.last_key.Goals as goal

pub returns-in-Some : goal.returns-in-Some
returns-in-Some c = ap keyed c.in-Some.ensures.value ∙ last_slot c.args.rows.now

pub returns-in-None : goal.returns-in-None
returns-in-None c = ap keyed c.in-None.ensures.value ∙ last_slot c.args.rows.now
