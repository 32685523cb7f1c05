use Rattle.std.proofs.Common.{◌≡◌, ◌∙◌, ◌+◌, ◌++◌, [], ◌∷◌, Some, None, ap, arith, length, length-append, map, refl, subst, suc, sym}
use Rattle.std.specs.Prelude.{option_map}
use Rattle.std.specs.Option.{option_to_list}
use Rattle.std.proofs.lemmas.List.{length-map, map-append}
use Rattle.reflector.specs.InformerViews.{indexes_in, names_in}
use Rattle.world_laws.specs.Moves.{Pursues}
use Rattle.world_laws.specs.Reports.{reports_after}
use Rattle.world.specs.Views.{event_seen}
use Rattle.world.specs.Represents.{Setup, setup_in}
use Rattle.world.specs.Shown.{AllShow}
use Rattle.world.proofs.NextMoves.{none_left, pursues_more}
use Rattle.world.proofs.Reports.{shown_more}
use Rattle.world.proofs.moving.moves_of.Goals as goal

pub loop-count-init : goal.loop-count-init
loop-count-init g c =
    let none = c.new-events.ensures.items in
    let count = ap length none in (
      refl,
      omega (arith, count),
      omega (arith, count),
      λ task w represents. (
        w,
        [],
        subst (λ es. Pursues task (suc c.args.before) w (map event_seen es) w []) (sym none) (refl, refl),
        represents,
        subst (λ xs. AllShow (λ b s. g.I.IndexBy.keys b s) (indexes_in c.args.world.now.client) (names_in c.args.world.now.client) task.settings.label xs []) (sym c.new-reports.ensures.items) tt,
      ),
    )

pub loop-count-preserved : goal.loop-count-preserved
loop-count-preserved g c =
    let old = c.loop-count.events.items in
    let pushed = c.in_ok-push.ensures.items in
    let many = ap length pushed ∙ length-append old (c.in-Some.event ∷ []) in
    let at = c.loop-count.invariant.1 in
    let lt = c.loop-count-test.true in (
      c.in_ok-take.ensures.setup ∙ c.loop-count.invariant.0,
      omega (arith, many, at),
      omega (arith, many, at, lt),
      λ task w represents.
          let before = c.loop-count.invariant.3 task w represents in
          let mid = before.0 in
          let e = event_seen c.in-Some.event in
          let did = c.in_ok-take.ensures.steps task mid before.3 in
          let v = did.0 in
          let k = before.3.client in
          let es = map event_seen old in
          let n = c.loop-count.count + 1 in
          let more = reports_after n mid v in
          let next = sym (c.next_move.ensures task _ mid before.3) ∙ ap (option_map event_seen) c.in-Some.is in
          let number = length-map old event_seen in
          let ran = pursues_more task (suc c.args.before) n w es e mid v before.1 (omega (arith, number, at)) before.2 next did.1 in
          let label = task.settings.label in
          let made = c.in_ok-made.ensures.reports task mid.client.cache v did.2 (c.revision-was.ensures mid.client k.0 k.1 k.2) in
          let first = setup_in c.args.world.now.client in
          let emitted = subst (λ (s : Setup g.row.I.Denot). AllShow (λ b o. g.I.IndexBy.keys b o) s.indexes s.names label (option_to_list c.in_ok-made.made) more) (c.in_ok-take.ensures.setup ∙ c.loop-count.invariant.0) made in (
            v,
            before.1 ++ more,
            subst (λ es. Pursues task (suc c.args.before) w es v (before.1 ++ more)) (sym (ap (map event_seen) pushed ∙ map-append event_seen old (c.in-Some.event ∷ []))) ran,
            did.2,
            subst (λ xs. AllShow (λ b o. g.I.IndexBy.keys b o) first.indexes first.names label xs (before.1 ++ more)) (sym c.in_ok-push_report.ensures.pushed)
                (shown_more (λ b o. g.I.IndexBy.keys b o) first.indexes first.names label c.loop-count.reports.items (option_to_list c.in_ok-made.made) before.1 more before.4 emitted),
          ),
    )

pub returns-in_default-clause-moves : goal.returns-in_default-clause-moves
returns-in_default-clause-moves g c = λ task w represents.
    let all = c.loop-count.invariant.3 task w represents in
    let none = sym (ap (option_map event_seen) c.in_default.is) ∙ c.next_move.ensures task _ all.0 all.3 in
    (all.0, all.3, record { reports = all.1; pursues = all.2; shown = all.4; bound = c.loop-count.invariant.2; ends = λ _. none_left all.0 none })

pub returns-clause-moves : goal.returns-clause-moves
returns-clause-moves g c = λ task w represents.
    let all = c.loop-count.invariant.3 task w represents in
    (all.0, all.3, record { reports = all.1; pursues = all.2; shown = all.4; bound = c.loop-count.invariant.2; ends = λ fewer. absurd (omega (arith, fewer, c.loop-count.invariant.1, c.loop-count-test.false)) })
