use Rattle.std.proofs.Common.{◌∙◌, ◌+◌, ◌∷◌, [], ap, refl, sym}
use Rattle.std.specs.Vec.{vec_items}
use Rattle.std.specs.Vec.Iter.{into_iter_items}
use Rattle.serving.specs.ServerViews.{next_of, watches_of}
use Rattle.std.proofs.lemmas.Iterator.Adapters.{YieldsList-from_vec}
use Rattle.std.proofs.lemmas.Iterator.Consumers.{YieldsList-end}
use Rattle.std.proofs.lemmas.List.{map-id}
use Rattle.serving.proofs.Joining.{pumps_all, pumps_next, pumps_none}
use Rattle.serving.proofs.Rising.{all_rise, alone_rises, begins_rise, settled_rise, settles_rise, some_of}
use Rattle.serving.proofs.server.Server.pump_watches.Goals as goal

pub loop-watch-init : goal.loop-watch-init
loop-watch-init g c = (
  pumps_none c.args.self.now.limits.lines _,
  refl,
  begins_rise c.replace-watches.new.dest.items (into_iter_items c.into_iter-watch-iterator.result) c.args.self.now.watches.items (c.args.self.now.highest + 1)
      (ap vec_items c.replace-watches.ensures.after ∙ c.new.ensures.items) (c.into_iter-watch-iterator.ensures.into_iter_gives.0 ∙ ap vec_items c.replace-watches.ensures.value) c.args.self.now.in_order,
  refl,
)

pub invariant_of-self : goal.invariant_of-self
invariant_of-self g c = record { in_order = alone_rises c.replace-watches.new.dest.items (c.args.self.now.highest + 1) (ap vec_items c.replace-watches.ensures.after ∙ c.new.ensures.items) }

pub settle-requires : goal.settle-requires
settle-requires g c =
    settles_rise c.loop-watch.self.watches.items (into_iter_items c.loop-watch.watch-iterator) (into_iter_items c.next.new.self) c.in-Some.watch (c.loop-watch.self.highest + 1)
    (some_of _ _ _ _ c.in-Some.is c.next.ensures.steps).0 c.loop-watch.invariant.2

pub returns-clause-order : goal.returns-clause-order
returns-clause-order g c = all_rise (watches_of c.args.self.now) ((c.args.self.now.highest + 1) ∷ []) c.args.self.now.in_order

pub loop-watch-preserved : goal.loop-watch-preserved
loop-watch-preserved g c = (
  pumps_next c.pump-done.result c.args.self.now.limits.lines c.loop-watch.yielded c.in-Some.watch _ _ _ _ c.pump-done.ensures.0 c.loop-watch.invariant.0 c.pump-done.ensures.2 c.settle.ensures.serves,
  c.settle.ensures.limits ∙ c.loop-watch.invariant.1,
  settled_rise c.loop-watch.self.watches.items (into_iter_items c.loop-watch.watch-iterator) (into_iter_items c.next.new.self) c.in-Some.watch (c.loop-watch.self.highest + 1) (next_of c.settle.new.self)
      c.settle.result (watches_of c.settle.new.self) (some_of _ _ _ _ c.in-Some.is c.next.ensures.steps).0 c.settle.ensures.watches c.settle.ensures.next c.loop-watch.invariant.2,
  c.settle.ensures.next ∙ c.loop-watch.invariant.3,
)

pub returns-clause-pumps : goal.returns-clause-pumps
returns-clause-pumps g c =
    let watches = c.replace-watches.result in
    let gives = c.into_iter-watch-iterator.ensures.into_iter_gives in
    let chain = YieldsList-from_vec watches.items gives.0 (gives.1 ∙ watches.ok.0) in
    let end = YieldsList-end chain c.loop-watch.yielded c.loop-watch.watch-iterator c.loop-watch.yielded_by c.next.result c.next.new.self c.in-None.is c.next.ensures.steps in
    pumps_all c.args.self.now.limits.lines c.loop-watch.yielded c.args.self.now.watches.items _ _ (sym (map-id c.loop-watch.yielded) ∙ end.0 ∙ ap vec_items c.replace-watches.ensures.value)
    c.loop-watch.invariant.0

pub returns-clause-limits : goal.returns-clause-limits
returns-clause-limits g c = c.loop-watch.invariant.1

pub returns-clause-next : goal.returns-clause-next
returns-clause-next g c = c.loop-watch.invariant.3
