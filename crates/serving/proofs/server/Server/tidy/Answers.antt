use Rattle.serving.proofs.Joining.{tidies}
use Rattle.serving.proofs.server.Server.tidy.Goals as goal

pub returns-clause-tidies : goal.returns-clause-tidies
returns-clause-tidies g c = tidies _ _ _ c.args.ms _ _ _ _ c.hand.ensures.hands c.compact.ensures c.pump_watches.ensures.pumps
