use Rattle.serde_json.specs.View.{view}
use Rattle.api_types.specs.FaultPlaces.{Breaks, EndsReading, IsBrokenIn, IsReportedOf}
use Rattle.api_types.proofs.FaultPlaces.{first_is_moved, first_moved, no_first, none_moved, one_moved, reported_part}
use Rattle.api_types.proofs.locate.all_located.Goals as goal

pub loop-broken-preserved : goal.loop-broken-preserved
loop-broken-preserved c =
    let t = view c.args.value.now in
    let located = c.in_ok-located_part.ensures in
    let reported = c.in_ok-located_part.field-0 in (
      one_moved (IsBrokenIn Breaks t) (IsReportedOf Breaks c.args.number t) c.args.inner.items c.loop-broken.broken-iterator.rest.items c.next.new.self.rest.items c.in-Some.broken c.loop-broken.all.items c.push.new.self.items reported
          c.in-Some.ensures.steps.0 c.in_ok-push.ensures.items (reported_part Breaks c.args.number t c.in-Some.broken reported located) c.loop-broken.invariant.0,
      first_moved (IsBrokenIn EndsReading t) (IsReportedOf EndsReading c.args.number t) c.args.inner.items c.loop-broken.broken-iterator.rest.items c.next.new.self.rest.items c.in-Some.broken c.loop-broken.all.items c.push.new.self.items reported
          c.in-Some.ensures.steps.0 c.in_ok-push.ensures.items (reported_part EndsReading c.args.number t c.in-Some.broken reported located) c.loop-broken.invariant.1,
    )

pub loop-broken-init : goal.loop-broken-init
loop-broken-init c =
    let t = view c.args.value.now in
    let given = c.into_iter-broken-iterator.ensures.into_iter_gives.0 in (
      none_moved (IsBrokenIn Breaks t) (IsReportedOf Breaks c.args.number t) c.args.inner.items c.into_iter-broken-iterator.result.rest.items c.new-all.result.items given c.new-all.ensures.items,
      no_first (IsBrokenIn EndsReading t) (IsReportedOf EndsReading c.args.number t) c.args.inner.items c.into_iter-broken-iterator.result.rest.items c.new-all.result.items given c.new-all.ensures.items,
    )

pub returns : goal.returns
returns c all =
    let t = view c.args.value.now in (
      (c.loop-broken.invariant.0 all.0).1,
      first_is_moved (IsBrokenIn EndsReading t) (IsReportedOf EndsReading c.args.number t) c.args.inner.items c.loop-broken.broken-iterator.rest.items c.loop-broken.all.items c.loop-broken.invariant.1 all.1,
    )
