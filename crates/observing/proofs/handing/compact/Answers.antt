use Rattle.httpedge.proofs.Handed.{compacts_none, compacts_not, compacts_then}
use Rattle.observing.proofs.handing.compact.Goals as goal

pub returns-then-compacted-revision : goal.returns-then-compacted-revision
returns-then-compacted-revision g c = compacts_then _ _ c.args.keep c.in-Ok.current c.in-Ok.compacted c.saturating_sub-revision.result c.marks.result c.marks.ensures c.in-Ok.is c.saturating_sub-revision.ensures c.if-compacted-revision.true c.hand.ensures.hands

pub returns-else-compacted-revision : goal.returns-else-compacted-revision
returns-else-compacted-revision g c = compacts_not _ c.args.keep c.in-Ok.current c.in-Ok.compacted c.saturating_sub-revision.result c.marks.result c.marks.ensures c.in-Ok.is c.saturating_sub-revision.ensures c.if-compacted-revision.false

pub returns-in_default : goal.returns-in_default
returns-in_default g c = compacts_none _ c.args.keep c.in_default.field-0 c.marks.result c.marks.ensures c.in_default.is
