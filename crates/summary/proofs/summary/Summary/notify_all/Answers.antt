use Rattle.std.proofs.Common.{sym, ap, ◌∙◌}
use Rattle.reflector.specs.Views.{notice_seen}
use Rattle.summary.specs.Steps.{noted}
use Rattle.summary.specs.Summary.{summed}
use Rattle.summary.proofs.NotingAll.{next_noted}
use Rattle.summary.proofs.summary.Summary.notify_all.Goals as goal

pub loop-counted-preserved : goal.loop-counted-preserved
loop-counted-preserved c =
    c.in-Ok.ensures.ok ∙ ap (λ s. noted s (notice_seen c.index-notices-counted.result)) c.loop-counted.invariant
    ∙ sym (next_noted notice_seen (summed c.args.self.now) c.args.notices.now c.loop-counted.counted c.index-notices-counted.result c.loop-counted-test.true c.index-notices-counted.is)
