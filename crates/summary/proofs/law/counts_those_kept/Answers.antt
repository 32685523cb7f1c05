use Rattle.std.proofs.Common.{ap, refl, ◌∙◌}
use Rattle.reflector.specs.Client.{kept}
use Rattle.summary.specs.Counts.{how_many}
use Rattle.summary.proofs.HowMany.{notices_counted}
use Rattle.summary.proofs.Running.{waiting_counted, run_counted}
use Rattle.summary.proofs.law.counts_those_kept.Goals as goal

pub returns : goal.returns
returns c = record {
  all = λ test o ns old. notices_counted test o ns old;
  waiting = λ test o c lead. waiting_counted test (how_many test o) o c refl lead;
  since = λ test wanted before now emitted. notices_counted test (kept before.cache) emitted.since emitted.old ∙ ap (how_many test) emitted.replay;
  runs = λ test wanted server events. run_counted test wanted server events;
}
