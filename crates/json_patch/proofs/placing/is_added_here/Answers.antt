use Rattle.std.proofs.Common.{sym, ap, ◌∙◌}
use Rattle.json_patch.specs.Operations.{is_added_here}
use Rattle.json_patch.proofs.Deeper.{added_at_last, bytes_of}
use Rattle.json_patch.proofs.placing.is_added_here.Goals as goal

pub returns-in-Adds : goal.returns-in-Adds
returns-in-Adds c = c.is_empty.ensures ∙ added_at_last c.args.rest.now ∙ ap (λ p. is_added_here p (bytes_of c.args.rest.now)) (sym c.in-Adds.is)
