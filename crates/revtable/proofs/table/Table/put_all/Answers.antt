use Rattle.revtable.proofs.Several.{puts_stand}
use Rattle.revtable.proofs.table.Table.put_all.Goals as goal

pub invariant_of-self-2 : goal.invariant_of-self-2
invariant_of-self-2 c =
    (puts_stand c.marks-marks.result.current c.self.inside.compacted c.self.inside.log c.put_all.new.self c.args.self.now c.args.writes.now
    c.self.invariant.0 c.self.invariant.2 c.self.view_is c.marks-marks.ensures.current c.requires.fit c.requires.there c.in_ok-put_all.ensures.ok).0

pub returns-clause-ok : goal.returns-clause-ok
returns-clause-ok c =
    (puts_stand c.marks-marks.result.current c.self.inside.compacted c.self.inside.log c.put_all.new.self c.args.self.now c.args.writes.now
    c.self.invariant.0 c.self.invariant.2 c.self.view_is c.marks-marks.ensures.current c.requires.fit c.requires.there c.in_ok-put_all.ensures.ok).1
