use Rattle.std.proofs.Common.{◌∙◌, ap, subst}
use Rattle.std.specs.Prelude.{◌&&◌, None, if◌then◌else◌, is_none}
use Rattle.std.specs.Option.{option_to_list}
use Rattle.world_laws.specs.Reports.{reports_after}
use Rattle.world.specs.Views.{event_seen}
use Rattle.world.specs.Represents.{Setup}
use Rattle.world.specs.Stepping.{opens_own, refusal_of}
use Rattle.world.specs.Shown.{AllShow}
use Rattle.world.proofs.stepping.step_of.Goals as goal

pub returns-clause-steps : goal.returns-clause-steps
returns-clause-steps g c = λ task w represents.
    let e = event_seen c.args.event.now in
    let k = represents.client in
    let did = c.in_ok-refused.ensures.steps task w represents in
    let v = did.0 in
    let refuses = c.in_ok-refused.ensures.refused task w represents in
    let made = c.in_ok-report.ensures.reports task w.client.cache v did.2 (c.revision-before.ensures w.client k.0 k.1 k.2) in (
      v,
      did.1,
      did.2,
      record {
        refused = refuses;
        fault = c.in_ok-refused.ensures.fault;
        opened = c.opened_by.ensures (refusal_of task w e) refuses ∙ ap (λ id. if opens_own e && is_none (refusal_of task w e) then id else None) (c.next_id-next.ensures w.hub represents.hub);
        written = c.in_ok-written.ensures w.hub v.hub did.2.hub.0 did.3;
        ended = c.in_ok-ended.ensures w.hub v.hub did.2.hub.0 did.3;
        report = subst (λ (s : Setup g.row.I.Denot). AllShow (λ b o. g.I.IndexBy.keys b o) s.indexes s.names task.settings.label (option_to_list c.in_ok-report.report) (reports_after c.args.number w v)) c.in_ok-refused.ensures.setup made;
      },
    )
