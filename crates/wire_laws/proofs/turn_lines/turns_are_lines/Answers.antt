use Rattle.wire_laws.proofs.TurnTexts.{coming_unicode, pumped_lines, ticked_lines}
use Rattle.wire_laws.proofs.turn_lines.turns_are_lines.Goals as goal

pub returns-clause-pumps : goal.returns-clause-pumps
returns-clause-pumps c = pumped_lines

pub returns-clause-ticks : goal.returns-clause-ticks
returns-clause-ticks c = ticked_lines

pub returns-clause-texts : goal.returns-clause-texts
returns-clause-texts c = coming_unicode
