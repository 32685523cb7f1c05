use Rattle.sqlite.specs.Held.{state}
use Rattle.revtable.proofs.Inserts.{makes_objects}
use Rattle.revtable.proofs.tables.make_objects.Goals as goal

pub returns : goal.returns
returns g c = makes_objects (state g.S.Store c.args.base.now) (state g.S.Store c.execute.new.self) _ c.requires.empty (c.in_ok-execute.ensures.runs (c.requires.clean c.execute.new.self))
