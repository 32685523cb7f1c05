use Rattle.line_laws.proofs.Feeds.{ends_shown, shown_has_none}
use Rattle.line_laws.proofs.lines.lines_are_lines.Goals as goal

pub returns-clause-ends : goal.returns-clause-ends
returns-clause-ends c = ends_shown

pub returns-clause-one : goal.returns-clause-one
returns-clause-one c = shown_has_none
