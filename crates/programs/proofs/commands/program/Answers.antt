use Rattle.programs.proofs.CommandParts.{has_no_options, is_local, is_program, keeps_needs}
use Rattle.programs.proofs.commands.program.Goals as goal

pub returns-clause-app : goal.returns-clause-app
returns-clause-app c = is_program _ _ _ _ _ _ _ c.about.ensures c.version.ensures c.after_help.ensures _ c.new.ensures.app

pub returns-clause-empty : goal.returns-clause-empty
returns-clause-empty c = has_no_options _ _ _ _ _ _ _ c.about.ensures c.version.ensures c.after_help.ensures (c.new.ensures.empty.0, c.new.ensures.empty.1)

pub returns-clause-local : goal.returns-clause-local
returns-clause-local c = is_local _ _ _ _ _ _ _ c.about.ensures c.version.ensures c.after_help.ensures c.new.ensures.local

pub returns-clause-negates : goal.returns-clause-negates
returns-clause-negates c = keeps_needs _ _ _ _ _ _ _ c.about.ensures c.version.ensures c.after_help.ensures c.new.ensures.negates
