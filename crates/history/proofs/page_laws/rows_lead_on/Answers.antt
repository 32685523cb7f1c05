use Rattle.history.proofs.Leading.{ended, more}
use Rattle.history.proofs.page_laws.rows_lead_on.Goals as goal

pub returns : goal.returns
returns c = record { ended = ended; more = more }
