use Rattle.reflector.proofs.Leading.{run_leads}
use Rattle.reflector.proofs.laws.notices_lead_on.Goals as goal

pub returns : goal.returns
returns c = λ wanted server events. run_leads wanted server events
