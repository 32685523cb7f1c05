use Rattle.line_laws.proofs.Waiting.{sends_all, sends_changes}
use Rattle.line_laws.proofs.following.watches_send_all.Goals as goal

pub returns-clause-all : goal.returns-clause-all
returns-clause-all c = sends_all

pub returns-clause-changes : goal.returns-clause-changes
returns-clause-changes c = sends_changes
