use Rattle.settling_laws.proofs.Asked as asked
use Rattle.settling_laws.proofs.applies_ask.Goals as goal

pub returns : goal.returns
returns c = asked.applies_ask c.requests_ask.ensures.with_body
