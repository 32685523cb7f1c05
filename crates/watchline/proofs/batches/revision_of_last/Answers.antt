use Rattle.std.proofs.Common.{◌∙◌, ap, option_map}
use Rattle.watchline.proofs.Batched.{last_slot}
use Rattle.watchline.proofs.batches.revision_of_last.Goals as goal

pub returns-in-Some : goal.returns-in-Some
returns-in-Some c = ap (option_map (λ c. c.revision)) c.in-Some.ensures.value ∙ last_slot c.args.changes.now

pub returns-in-None : goal.returns-in-None
returns-in-None c = ap (option_map (λ c. c.revision)) c.in-None.ensures.value ∙ last_slot c.args.changes.now
