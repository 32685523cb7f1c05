use Rattle.line_laws.proofs.Renumbered.{shows_object, shows_text}
use Rattle.line_laws.proofs.deletions.deletions_show_the_object.Goals as goal

pub returns-clause-text : goal.returns-clause-text
returns-clause-text c = shows_text

pub returns-clause-object : goal.returns-clause-object
returns-clause-object c = shows_object
