use Rattle.std.proofs.Common.{◌≡◌, map, take}
use Rattle.reflector.specs.Views.{notice_seen}
use Rattle.summary.specs.Steps.{noted_all}
use Rattle.summary.specs.Summary.{summed}
use Rattle.summary.proofs.summary.Summary.notify_all.Given as goal

abbrev pub invariant-loop-counted : goal.invariant-loop-counted
invariant-loop-counted l = summed l.self ≡ noted_all (summed l.fn.self) (map notice_seen (take l.counted l.notices))
