use Rattle.std.proofs.Common.{refl}
use Rattle.std.proofs.lemmas.Result.{IfOk-weaker}
use Rattle.httpedge.specs.ConnectionViews.{left, watch_of}
use Rattle.httpedge.proofs.Turning.{pump_turns}
use Rattle.httpedge.proofs.watching.Watch.pump.Goals as goal

pub returns-clause-ok : goal.returns-clause-ok
returns-clause-ok c = λ types m serves.
    IfOk-weaker c.pump.result _ _ (λ change pumps.
    pump_turns m c.args.max (watch_of c.args.self.now) _ change c.pump.new.cursor (left c.args.out.now) (left c.pump.new.out) pumps refl)
    (c.pump.ensures.ok types m serves)
