use Rattle.typed.proofs.Keeping.{over_content, reading_content, without_content}
use Rattle.typed.proofs.print_law.contents_are_kept.Goals as goal

pub returns-clause-readings : goal.returns-clause-readings
returns-clause-readings c = reading_content

pub returns-clause-overs : goal.returns-clause-overs
returns-clause-overs c = over_content

pub returns-clause-remains : goal.returns-clause-remains
returns-clause-remains c = without_content
