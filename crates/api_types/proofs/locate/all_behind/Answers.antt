use Rattle.std.proofs.Common.{◌+◌}
use Rattle.serde_json.specs.Data.{object}
use Rattle.api_types.specs.FaultPlaces.{Breaks, EndsReading, IsBroken}
use Rattle.api_types.proofs.FaultPlaces.{first_is_moved, first_moved, no_first, none_moved, one_moved}
use Rattle.api_types.proofs.locate.all_behind.Goals as goal

pub loop-broken-preserved : goal.loop-broken-preserved
loop-broken-preserved c depth ms d is =
    let kept = c.loop-broken.invariant depth ms d is in (
      one_moved (IsBroken Breaks (depth + 1) d) (IsBroken Breaks depth (object ms)) c.args.inner.items c.loop-broken.broken-iterator.rest.items c.next.new.self.rest.items
          c.in-Some.broken c.loop-broken.all.items c.push.new.self.items c.in_ok-one_behind.field-0 c.in-Some.ensures.steps.0 c.in_ok-push.ensures.items (c.in_ok-one_behind.ensures.breaks depth ms d is) kept.0,
      first_moved (IsBroken EndsReading (depth + 1) d) (IsBroken EndsReading depth (object ms)) c.args.inner.items c.loop-broken.broken-iterator.rest.items c.next.new.self.rest.items
          c.in-Some.broken c.loop-broken.all.items c.push.new.self.items c.in_ok-one_behind.field-0 c.in-Some.ensures.steps.0 c.in_ok-push.ensures.items (c.in_ok-one_behind.ensures.ends depth ms d is) kept.1,
    )

pub loop-broken-init : goal.loop-broken-init
loop-broken-init c depth ms d is =
    let given = c.into_iter-broken-iterator.ensures.into_iter_gives.0 in (
      none_moved (IsBroken Breaks (depth + 1) d) (IsBroken Breaks depth (object ms)) c.args.inner.items c.into_iter-broken-iterator.result.rest.items c.new-all.result.items given c.new-all.ensures.items,
      no_first (IsBroken EndsReading (depth + 1) d) (IsBroken EndsReading depth (object ms)) c.args.inner.items c.into_iter-broken-iterator.result.rest.items c.new-all.result.items given c.new-all.ensures.items,
    )

pub returns : goal.returns
returns c depth ms d is all =
    let kept = c.loop-broken.invariant depth ms d is in
    ((kept.0 all.0).1, first_is_moved (IsBroken EndsReading (depth + 1) d) (IsBroken EndsReading depth (object ms)) c.args.inner.items c.loop-broken.broken-iterator.rest.items c.loop-broken.all.items kept.1 all.1)
