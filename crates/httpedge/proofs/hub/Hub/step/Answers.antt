use Rattle.std.proofs.Common.{sym, ap, subst, ◌∙◌}
use Rattle.httpedge.specs.HubViews.{Handles, ReportsFile, event_of, outcome_of}
use Rattle.httpedge.specs.Steps.{Event, comes}
use Rattle.httpedge.proofs.Ended.{does_in, handles_steps, sent_in, runs_in, unchanged_in}
use Rattle.httpedge.proofs.Representing.{bytes_arent, gone_isnt}
use Rattle.httpedge.proofs.hub.Hub.step.Goals as goal

pub returns-in-Open-clause-follows : goal.returns-in-Open-clause-follows
returns-in-Open-clause-follows c =
    does_in c.args.self.now c.open.new.self (event_of c.args.event.now) c.open.result
    (subst (λ (e : Event). Handles c.args.self.now e c.open.result c.open.new.self) (sym (ap event_of c.in-Open.is)) c.open.ensures.handles)

pub returns-in-Open-clause-runs : goal.returns-in-Open-clause-runs
returns-in-Open-clause-runs c =
    runs_in c.args.self.now c.open.new.self (event_of c.args.event.now) (outcome_of c.open.result)
    (handles_steps c.args.self.now c.open.new.self (event_of c.args.event.now) c.open.result
    (subst (λ (e : Event). Handles c.args.self.now e c.open.result c.open.new.self) (sym (ap event_of c.in-Open.is)) c.open.ensures.handles))

pub returns-in-Open-clause-refused : goal.returns-in-Open-clause-refused
returns-in-Open-clause-refused c =
    sent_in c.args.self.now c.open.new.self (event_of c.args.event.now) (outcome_of c.open.result)
    (handles_steps c.args.self.now c.open.new.self (event_of c.args.event.now) c.open.result
    (subst (λ (e : Event). Handles c.args.self.now e c.open.result c.open.new.self) (sym (ap event_of c.in-Open.is)) c.open.ensures.handles))

pub returns-in-Open-clause-unchanged : goal.returns-in-Open-clause-unchanged
returns-in-Open-clause-unchanged c =
    unchanged_in c.args.self.now c.open.new.self (event_of c.args.event.now) (outcome_of c.open.result)
    (handles_steps c.args.self.now c.open.new.self (event_of c.args.event.now) c.open.result
    (subst (λ (e : Event). Handles c.args.self.now e c.open.result c.open.new.self) (sym (ap event_of c.in-Open.is)) c.open.ensures.handles))

pub returns-in-Open-clause-reported : goal.returns-in-Open-clause-reported
returns-in-Open-clause-reported c = subst (λ (e : Event). ReportsFile e c.open.result) (sym (ap event_of c.in-Open.is)) tt

pub returns-in-In-clause-follows : goal.returns-in-In-clause-follows
returns-in-In-clause-follows c =
    does_in c.args.self.now c.change.new.self (event_of c.args.event.now) c.change.result
    (subst (λ (e : Event). Handles c.args.self.now e c.change.result c.change.new.self) (sym (ap event_of c.in-In.is ∙ ap (comes c.in-In.id) (sym c.deref.ensures.value))) (c.change.ensures.handles (bytes_arent c.deref.result)))

pub returns-in-In-clause-runs : goal.returns-in-In-clause-runs
returns-in-In-clause-runs c =
    runs_in c.args.self.now c.change.new.self (event_of c.args.event.now) (outcome_of c.change.result)
    (handles_steps c.args.self.now c.change.new.self (event_of c.args.event.now) c.change.result
    (subst (λ (e : Event). Handles c.args.self.now e c.change.result c.change.new.self) (sym (ap event_of c.in-In.is ∙ ap (comes c.in-In.id) (sym c.deref.ensures.value))) (c.change.ensures.handles (bytes_arent c.deref.result))))

pub returns-in-In-clause-refused : goal.returns-in-In-clause-refused
returns-in-In-clause-refused c =
    sent_in c.args.self.now c.change.new.self (event_of c.args.event.now) (outcome_of c.change.result)
    (handles_steps c.args.self.now c.change.new.self (event_of c.args.event.now) c.change.result
    (subst (λ (e : Event). Handles c.args.self.now e c.change.result c.change.new.self) (sym (ap event_of c.in-In.is ∙ ap (comes c.in-In.id) (sym c.deref.ensures.value))) (c.change.ensures.handles (bytes_arent c.deref.result))))

pub returns-in-In-clause-unchanged : goal.returns-in-In-clause-unchanged
returns-in-In-clause-unchanged c =
    unchanged_in c.args.self.now c.change.new.self (event_of c.args.event.now) (outcome_of c.change.result)
    (handles_steps c.args.self.now c.change.new.self (event_of c.args.event.now) c.change.result
    (subst (λ (e : Event). Handles c.args.self.now e c.change.result c.change.new.self) (sym (ap event_of c.in-In.is ∙ ap (comes c.in-In.id) (sym c.deref.ensures.value))) (c.change.ensures.handles (bytes_arent c.deref.result))))

pub returns-in-In-clause-reported : goal.returns-in-In-clause-reported
returns-in-In-clause-reported c = subst (λ (e : Event). ReportsFile e c.change.result) (sym (ap event_of c.in-In.is)) tt

pub returns-in-Gone-clause-follows : goal.returns-in-Gone-clause-follows
returns-in-Gone-clause-follows c =
    does_in c.args.self.now c.change-in-Gone.new.self (event_of c.args.event.now) c.change-in-Gone.result
    (subst (λ (e : Event). Handles c.args.self.now e c.change-in-Gone.result c.change-in-Gone.new.self) (sym (ap event_of c.in-Gone.is)) (c.change-in-Gone.ensures.handles gone_isnt))

pub returns-in-Gone-clause-runs : goal.returns-in-Gone-clause-runs
returns-in-Gone-clause-runs c =
    runs_in c.args.self.now c.change-in-Gone.new.self (event_of c.args.event.now) (outcome_of c.change-in-Gone.result)
    (handles_steps c.args.self.now c.change-in-Gone.new.self (event_of c.args.event.now) c.change-in-Gone.result
    (subst (λ (e : Event). Handles c.args.self.now e c.change-in-Gone.result c.change-in-Gone.new.self) (sym (ap event_of c.in-Gone.is)) (c.change-in-Gone.ensures.handles gone_isnt)))

pub returns-in-Gone-clause-refused : goal.returns-in-Gone-clause-refused
returns-in-Gone-clause-refused c =
    sent_in c.args.self.now c.change-in-Gone.new.self (event_of c.args.event.now) (outcome_of c.change-in-Gone.result)
    (handles_steps c.args.self.now c.change-in-Gone.new.self (event_of c.args.event.now) c.change-in-Gone.result
    (subst (λ (e : Event). Handles c.args.self.now e c.change-in-Gone.result c.change-in-Gone.new.self) (sym (ap event_of c.in-Gone.is)) (c.change-in-Gone.ensures.handles gone_isnt)))

pub returns-in-Gone-clause-unchanged : goal.returns-in-Gone-clause-unchanged
returns-in-Gone-clause-unchanged c =
    unchanged_in c.args.self.now c.change-in-Gone.new.self (event_of c.args.event.now) (outcome_of c.change-in-Gone.result)
    (handles_steps c.args.self.now c.change-in-Gone.new.self (event_of c.args.event.now) c.change-in-Gone.result
    (subst (λ (e : Event). Handles c.args.self.now e c.change-in-Gone.result c.change-in-Gone.new.self) (sym (ap event_of c.in-Gone.is)) (c.change-in-Gone.ensures.handles gone_isnt)))

pub returns-in-Gone-clause-reported : goal.returns-in-Gone-clause-reported
returns-in-Gone-clause-reported c = subst (λ (e : Event). ReportsFile e c.change-in-Gone.result) (sym (ap event_of c.in-Gone.is)) tt

pub returns-in-Pump-clause-follows : goal.returns-in-Pump-clause-follows
returns-in-Pump-clause-follows c =
    does_in c.args.self.now c.pump.new.self (event_of c.args.event.now) c.pump.result
    (subst (λ (e : Event). Handles c.args.self.now e c.pump.result c.pump.new.self) (sym (ap event_of c.in-Pump.is)) c.pump.ensures)

pub returns-in-Pump-clause-runs : goal.returns-in-Pump-clause-runs
returns-in-Pump-clause-runs c =
    runs_in c.args.self.now c.pump.new.self (event_of c.args.event.now) (outcome_of c.pump.result)
    (handles_steps c.args.self.now c.pump.new.self (event_of c.args.event.now) c.pump.result
    (subst (λ (e : Event). Handles c.args.self.now e c.pump.result c.pump.new.self) (sym (ap event_of c.in-Pump.is)) c.pump.ensures))

pub returns-in-Pump-clause-refused : goal.returns-in-Pump-clause-refused
returns-in-Pump-clause-refused c =
    sent_in c.args.self.now c.pump.new.self (event_of c.args.event.now) (outcome_of c.pump.result)
    (handles_steps c.args.self.now c.pump.new.self (event_of c.args.event.now) c.pump.result
    (subst (λ (e : Event). Handles c.args.self.now e c.pump.result c.pump.new.self) (sym (ap event_of c.in-Pump.is)) c.pump.ensures))

pub returns-in-Pump-clause-unchanged : goal.returns-in-Pump-clause-unchanged
returns-in-Pump-clause-unchanged c =
    unchanged_in c.args.self.now c.pump.new.self (event_of c.args.event.now) (outcome_of c.pump.result)
    (handles_steps c.args.self.now c.pump.new.self (event_of c.args.event.now) c.pump.result
    (subst (λ (e : Event). Handles c.args.self.now e c.pump.result c.pump.new.self) (sym (ap event_of c.in-Pump.is)) c.pump.ensures))

pub returns-in-Pump-clause-reported : goal.returns-in-Pump-clause-reported
returns-in-Pump-clause-reported c = subst (λ (e : Event). ReportsFile e c.pump.result) (sym (ap event_of c.in-Pump.is)) tt

pub returns-in-Tick-clause-follows : goal.returns-in-Tick-clause-follows
returns-in-Tick-clause-follows c =
    does_in c.args.self.now c.tick.new.self (event_of c.args.event.now) c.tick.result
    (subst (λ (e : Event). Handles c.args.self.now e c.tick.result c.tick.new.self) (sym (ap event_of c.in-Tick.is)) c.tick.ensures.handles)

pub returns-in-Tick-clause-runs : goal.returns-in-Tick-clause-runs
returns-in-Tick-clause-runs c =
    runs_in c.args.self.now c.tick.new.self (event_of c.args.event.now) (outcome_of c.tick.result)
    (handles_steps c.args.self.now c.tick.new.self (event_of c.args.event.now) c.tick.result
    (subst (λ (e : Event). Handles c.args.self.now e c.tick.result c.tick.new.self) (sym (ap event_of c.in-Tick.is)) c.tick.ensures.handles))

pub returns-in-Tick-clause-refused : goal.returns-in-Tick-clause-refused
returns-in-Tick-clause-refused c =
    sent_in c.args.self.now c.tick.new.self (event_of c.args.event.now) (outcome_of c.tick.result)
    (handles_steps c.args.self.now c.tick.new.self (event_of c.args.event.now) c.tick.result
    (subst (λ (e : Event). Handles c.args.self.now e c.tick.result c.tick.new.self) (sym (ap event_of c.in-Tick.is)) c.tick.ensures.handles))

pub returns-in-Tick-clause-unchanged : goal.returns-in-Tick-clause-unchanged
returns-in-Tick-clause-unchanged c =
    unchanged_in c.args.self.now c.tick.new.self (event_of c.args.event.now) (outcome_of c.tick.result)
    (handles_steps c.args.self.now c.tick.new.self (event_of c.args.event.now) c.tick.result
    (subst (λ (e : Event). Handles c.args.self.now e c.tick.result c.tick.new.self) (sym (ap event_of c.in-Tick.is)) c.tick.ensures.handles))

pub returns-in-Tick-clause-reported : goal.returns-in-Tick-clause-reported
returns-in-Tick-clause-reported c = subst (λ (e : Event). ReportsFile e c.tick.result) (sym (ap event_of c.in-Tick.is)) tt

pub returns-in-Compact-clause-follows : goal.returns-in-Compact-clause-follows
returns-in-Compact-clause-follows c =
    does_in c.args.self.now c.compact.new.self (event_of c.args.event.now) c.compact.result
    (subst (λ (e : Event). Handles c.args.self.now e c.compact.result c.compact.new.self) (sym (ap event_of c.in-Compact.is)) c.compact.ensures)

pub returns-in-Compact-clause-runs : goal.returns-in-Compact-clause-runs
returns-in-Compact-clause-runs c =
    runs_in c.args.self.now c.compact.new.self (event_of c.args.event.now) (outcome_of c.compact.result)
    (handles_steps c.args.self.now c.compact.new.self (event_of c.args.event.now) c.compact.result
    (subst (λ (e : Event). Handles c.args.self.now e c.compact.result c.compact.new.self) (sym (ap event_of c.in-Compact.is)) c.compact.ensures))

pub returns-in-Compact-clause-refused : goal.returns-in-Compact-clause-refused
returns-in-Compact-clause-refused c =
    sent_in c.args.self.now c.compact.new.self (event_of c.args.event.now) (outcome_of c.compact.result)
    (handles_steps c.args.self.now c.compact.new.self (event_of c.args.event.now) c.compact.result
    (subst (λ (e : Event). Handles c.args.self.now e c.compact.result c.compact.new.self) (sym (ap event_of c.in-Compact.is)) c.compact.ensures))

pub returns-in-Compact-clause-unchanged : goal.returns-in-Compact-clause-unchanged
returns-in-Compact-clause-unchanged c =
    unchanged_in c.args.self.now c.compact.new.self (event_of c.args.event.now) (outcome_of c.compact.result)
    (handles_steps c.args.self.now c.compact.new.self (event_of c.args.event.now) c.compact.result
    (subst (λ (e : Event). Handles c.args.self.now e c.compact.result c.compact.new.self) (sym (ap event_of c.in-Compact.is)) c.compact.ensures))

pub returns-in-Compact-clause-reported : goal.returns-in-Compact-clause-reported
returns-in-Compact-clause-reported c = subst (λ (e : Event). ReportsFile e c.compact.result) (sym (ap event_of c.in-Compact.is)) tt

pub returns-in-Retype-clause-follows : goal.returns-in-Retype-clause-follows
returns-in-Retype-clause-follows c =
    does_in c.args.self.now c.retype.new.self (event_of c.args.event.now) c.retype.result
    (subst (λ (e : Event). Handles c.args.self.now e c.retype.result c.retype.new.self) (sym (ap event_of c.in-Retype.is)) c.retype.ensures.handles)

pub returns-in-Retype-clause-runs : goal.returns-in-Retype-clause-runs
returns-in-Retype-clause-runs c =
    runs_in c.args.self.now c.retype.new.self (event_of c.args.event.now) (outcome_of c.retype.result)
    (handles_steps c.args.self.now c.retype.new.self (event_of c.args.event.now) c.retype.result
    (subst (λ (e : Event). Handles c.args.self.now e c.retype.result c.retype.new.self) (sym (ap event_of c.in-Retype.is)) c.retype.ensures.handles))

pub returns-in-Retype-clause-refused : goal.returns-in-Retype-clause-refused
returns-in-Retype-clause-refused c =
    sent_in c.args.self.now c.retype.new.self (event_of c.args.event.now) (outcome_of c.retype.result)
    (handles_steps c.args.self.now c.retype.new.self (event_of c.args.event.now) c.retype.result
    (subst (λ (e : Event). Handles c.args.self.now e c.retype.result c.retype.new.self) (sym (ap event_of c.in-Retype.is)) c.retype.ensures.handles))

pub returns-in-Retype-clause-unchanged : goal.returns-in-Retype-clause-unchanged
returns-in-Retype-clause-unchanged c =
    unchanged_in c.args.self.now c.retype.new.self (event_of c.args.event.now) (outcome_of c.retype.result)
    (handles_steps c.args.self.now c.retype.new.self (event_of c.args.event.now) c.retype.result
    (subst (λ (e : Event). Handles c.args.self.now e c.retype.result c.retype.new.self) (sym (ap event_of c.in-Retype.is)) c.retype.ensures.handles))

pub returns-in-Retype-clause-reported : goal.returns-in-Retype-clause-reported
returns-in-Retype-clause-reported c = subst (λ (e : Event). ReportsFile e c.retype.result) (sym (ap event_of c.in-Retype.is)) c.retype.ensures.reported
