use Rattle.std.proofs.Common.{◌≡◌, ◌∙◌, ◌+◌, ◌<◌, ◌++◌, [], arith, length, map, refl, subst, sym, take}
use Rattle.std.specs.Option.{option_to_list}
use Rattle.std.proofs.lemmas.List.{length-map, length-take-le, take_all}
use Rattle.reflector.specs.InformerViews.{indexes_in, names_in}
use Rattle.world_laws.specs.Reports.{Runs, reports_after}
use Rattle.world.specs.Views.{event_seen}
use Rattle.world.specs.Represents.{Setup, setup_in}
use Rattle.world.specs.Shown.{AllShow}
use Rattle.world.proofs.Reports.{shown_more}
use Rattle.world.proofs.Worlds.{events_more, runs_more}
use Rattle.world.proofs.running.take_all.Goals as goal

pub loop-index-init : goal.loop-index-init
loop-index-init g c =
    (refl, λ task w represents. (w, [], (refl, refl), represents, subst (λ xs. AllShow (λ b s. g.I.IndexBy.keys b s) (indexes_in c.args.world.now.client) (names_in c.args.world.now.client) task.settings.label xs []) (sym c.new-reports.ensures.items) tt))

pub loop-index-preserved : goal.loop-index-preserved
loop-index-preserved g c = (
  c.in_ok-take.ensures.setup ∙ c.loop-index.invariant.0,
  λ task w represents.
      let before = c.loop-index.invariant.1 task w represents in
      let mid = before.0 in
      let i = c.loop-index.index in
      let did = c.in_ok-take.ensures.steps task mid before.3 in
      let v = did.0 in
      let k = before.3.client in
      let all = c.args.events.now in
      let lt : i < length all = c.loop-index-test.true in
      let many : length (map event_seen (take i all)) ≡ i = length-map (take i all) event_seen ∙ length-take-le i all (omega (arith, lt)) in
      let more = reports_after (i + 1) mid v in
      let ran = runs_more task 1 (i + 1) w (map event_seen (take i all)) (event_seen c.index-events-index.result) mid v before.1 (omega (arith, many)) before.2 did.1 in
      let label = task.settings.label in
      let made = c.in_ok-made.ensures.reports task mid.client.cache v did.2 (c.revision-before.ensures mid.client k.0 k.1 k.2) in
      let first = setup_in c.args.world.now.client in
      let emitted = subst (λ (s : Setup g.row.I.Denot). AllShow (λ b o. g.I.IndexBy.keys b o) s.indexes s.names label (option_to_list c.in_ok-made.made) more) (c.in_ok-take.ensures.setup ∙ c.loop-index.invariant.0) made in (
        v,
        before.1 ++ more,
        subst (λ es. Runs task 1 w es v (before.1 ++ more)) (events_more event_seen all i c.index-events-index.result lt c.index-events-index.is) ran,
        did.2,
        subst (λ xs. AllShow (λ b o. g.I.IndexBy.keys b o) first.indexes first.names label xs (before.1 ++ more)) (sym c.in_ok-push_report.ensures.pushed)
            (shown_more (λ b o. g.I.IndexBy.keys b o) first.indexes first.names label c.loop-index.reports.items (option_to_list c.in_ok-made.made) before.1 more before.4 emitted),
      ),
)

pub returns-clause-runs : goal.returns-clause-runs
returns-clause-runs g c = λ task w represents.
    let all = c.loop-index.invariant.1 task w represents in
    (all.0, all.1, subst (λ es. Runs task 1 w (map event_seen es) all.0 all.1) (take_all c.loop-index.index c.args.events.now c.loop-index-test.false) all.2, all.3, all.4)
