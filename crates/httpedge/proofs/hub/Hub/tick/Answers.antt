use Rattle.std.proofs.Common.{rules, ◌≡◌, false, refl, subst}
use Rattle.std.specs.Prelude.{nat_lt}
use Rattle.httpedge.specs.TickViews.{TicksIn}
use Rattle.httpedge.proofs.Ticked.{ticks_run_out, ticks_well}
use Rattle.httpedge.proofs.hub.Hub.tick.Goals as goal

pub returns-in-Some-clause-handles : goal.returns-in-Some-clause-handles
returns-in-Some-clause-handles c = λ s is.
    let self = c.args.self.now in
    let forward : nat_lt c.args.ms self.last_tick ≡ false = search rules in
    ticks_well s c.args.ms self.last_tick self.shared c.tick-changes.new.self c.in-Some.changes is.1 forward
    (subst (TicksIn self.shared c.args.ms s c.tick-changes.new.self) c.in-Some.is (c.tick-changes.ensures self.shared s refl is.0))

pub returns-in-None-clause-handles : goal.returns-in-None-clause-handles
returns-in-None-clause-handles c = λ s is.
    let self = c.args.self.now in
    let forward : nat_lt c.args.ms self.last_tick ≡ false = search rules in
    ticks_run_out s c.args.ms self.last_tick self.shared c.tick-changes.new.self is.1 forward
    (subst (TicksIn self.shared c.args.ms s c.tick-changes.new.self) c.in-None.is (c.tick-changes.ensures self.shared s refl is.0))
