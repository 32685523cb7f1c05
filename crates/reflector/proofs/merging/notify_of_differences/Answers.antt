use Rattle.std.proofs.Common.{◌≡◌, ◌∙◌, ◌++◌, Some, None, ap, ap₂, arith, length, map, sym}
use Rattle.std.specs.FinMap as fin
use Rattle.indexer.specs.Objects.{place_cmp, shared_of}
use Rattle.reflector.specs.BetweenViews.{between, first_order}
use Rattle.reflector.specs.Client.{by_place}
use Rattle.reflector.specs.Views.{held_seen, notice_seen}
use Rattle.reflector.proofs.Turns.{fewer_left, goes_on, new_sorted, old_sorted, is_over}
use Rattle.reflector.proofs.merging.notify_of_differences.Goals as goal

pub loop-order-init : goal.loop-order-init
loop-order-init c =
    let old_length = c.args.old.ok.0 in
    let new_length = c.args.new.ok.0 in
    let olds = ap length c.from_vec-held.ensures.items in
    let response = ap length c.from_vec-listed.ensures.items in
    record {
      emitted = ap₂ (λ us vs. map notice_seen c.args.emitted.now.items ++ between (map held_seen us) (by_place (map shared_of vs))) c.from_vec-held.ensures.items c.from_vec-listed.ensures.items;
      old = ap (λ us. fin.is_sorted place_cmp (map held_seen us)) c.from_vec-held.ensures.items ∙ c.requires.old;
      new = ap (λ us. fin.is_sorted place_cmp (by_place (map shared_of us))) c.from_vec-listed.ensures.items ∙ c.requires.new;
      room = omega (arith, old_length, new_length, olds, response, c.requires.room);
    }

pub notify-requires : goal.notify-requires
notify-requires c =
    let is : first_order (map held_seen c.loop-order.held.items) (by_place (map shared_of c.loop-order.listed.items)) ≡ Some c.in-Some.order = sym c.first_order.ensures ∙ c.in-Some.is in
    let fewer = fewer_left c.in-Some.order c.loop-order.held.items c.take_first.new.old.items c.loop-order.listed.items c.take_first.new.new.items is c.take_first.ensures.old c.take_first.ensures.new in
    omega (arith, fewer, c.loop-order.invariant.room)

pub loop-order-preserved : goal.loop-order-preserved
loop-order-preserved c =
    let is : first_order (map held_seen c.loop-order.held.items) (by_place (map shared_of c.loop-order.listed.items)) ≡ Some c.in-Some.order = sym c.first_order.ensures ∙ c.in-Some.is in
    let fewer = fewer_left c.in-Some.order c.loop-order.held.items c.take_first.new.old.items c.loop-order.listed.items c.take_first.new.new.items is c.take_first.ensures.old c.take_first.ensures.new in
    let before = c.loop-order.invariant in
    record {
      emitted =
          goes_on c.in-Some.order c.loop-order.held.items c.take_first.new.old.items c.loop-order.listed.items c.take_first.new.new.items (map notice_seen c.loop-order.emitted.items) (map notice_seen c.notify.new.notices.items) _ _
          is c.take_first.ensures.emitted c.take_first.ensures.old c.take_first.ensures.new before.old before.new c.notify.ensures.emitted before.emitted;
      old = ap (fin.is_sorted place_cmp) c.take_first.ensures.old ∙ old_sorted c.in-Some.order (map held_seen c.loop-order.held.items) before.old;
      new = ap (fin.is_sorted place_cmp) c.take_first.ensures.new ∙ new_sorted c.in-Some.order (by_place (map shared_of c.loop-order.listed.items)) before.new;
      room = omega (arith, fewer, before.room, c.notify.ensures.one, c.notify.ensures.capacity);
    }

pub loop-order-smaller : goal.loop-order-smaller
loop-order-smaller c =
    let is : first_order (map held_seen c.loop-order.held.items) (by_place (map shared_of c.loop-order.listed.items)) ≡ Some c.in-Some.order = sym c.first_order.ensures ∙ c.in-Some.is in
    let fewer = fewer_left c.in-Some.order c.loop-order.held.items c.take_first.new.old.items c.loop-order.listed.items c.take_first.new.new.items is c.take_first.ensures.old c.take_first.ensures.new in
    omega (arith, fewer)

pub returns : goal.returns
returns c =
    let is : first_order (map held_seen c.loop-order.held.items) (by_place (map shared_of c.loop-order.listed.items)) ≡ None = sym c.first_order.ensures ∙ c.in_default.is in
    is_over (map held_seen c.loop-order.held.items) (by_place (map shared_of c.loop-order.listed.items)) (map notice_seen c.loop-order.emitted.items) _ is c.loop-order.invariant.emitted
