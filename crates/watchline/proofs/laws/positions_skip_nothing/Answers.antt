use Rattle.watchline.proofs.Onward.{begins_passing, marked_passes, pumped_passes, sends_passed, written_passes}
use Rattle.watchline.proofs.laws.positions_skip_nothing.Goals as goal

pub returns-clause-sent : goal.returns-clause-sent
returns-clause-sent c = sends_passed

pub returns-clause-begins : goal.returns-clause-begins
returns-clause-begins c = begins_passing

pub returns-clause-turns : goal.returns-clause-turns
returns-clause-turns c = pumped_passes

pub returns-clause-marks : goal.returns-clause-marks
returns-clause-marks c = marked_passes

pub returns-clause-writes : goal.returns-clause-writes
returns-clause-writes c = written_passes
