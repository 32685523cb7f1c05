use Rattle.sqlite.specs.Held.{state}
use Rattle.revtable.proofs.Inserts.{makes_marks}
use Rattle.revtable.proofs.tables.make_marks.Goals as goal

pub returns-clause-made : goal.returns-clause-made
returns-clause-made g c = (makes_marks (state g.S.Store c.args.base.now) (state g.S.Store c.execute.new.self) _ c.requires.objects (c.in_ok-execute.ensures.runs (c.requires.clean c.execute.new.self))).0

pub returns-clause-none : goal.returns-clause-none
returns-clause-none g c = (makes_marks (state g.S.Store c.args.base.now) (state g.S.Store c.execute.new.self) _ c.requires.objects (c.in_ok-execute.ensures.runs (c.requires.clean c.execute.new.self))).1
