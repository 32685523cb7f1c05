use Rattle.polling.proofs.Leading.{any_none, any_then}
use Rattle.polling.proofs.server.take_reports.Goals as goal

pub loop-event-init : goal.loop-event-init
loop-event-init g c = any_none _

pub loop-event-preserved : goal.loop-event-preserved
loop-event-preserved g c = any_then _ _ _ c.loop-event.invariant c.take_report.ensures
