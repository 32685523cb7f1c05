-- A controller comes to rest: all that the steps need follows from what stands in the world where it begins.
use Rattle.std.proofs.Common.{◌≡◌, ◌≢◌, ◌∙◌, ℕ, suc, ◌+◌, ◌*◌, ◌<◌, ◌≤◌, List, [], ◌∷◌, ◌++◌, length, refl, sym, ap, ap₂, subst, arith, length-append}
use Rattle.std.specs.FinMap as fin
use Rattle.api_types.specs.TypesFile.{ServedShape}
use Rattle.history.specs.History.{History, Objects as Standing}
use Rattle.api_request.specs.Calls.{at_tick}
use Rattle.verbs.specs.Machine.{AreObjectTypes, AreUnicode}
use Rattle.verbs.specs.Step.{step}
use Rattle.httpedge.specs.Connections.{max_open, open_count}
use Rattle.reflector.specs.Client.{Cache}
use Rattle.summary.specs.Counts.{Summed}
use Rattle.world_laws.specs.Reports.{IsStateAt, Report, Runs, reports_after}
use Rattle.world_laws.specs.Tasks.{IsTask, Task, wanted_by}
use Rattle.world_laws.specs.World.{World, WorldEvent, reconcile, start}
use Rattle.liveness_laws.proofs.CaughtUp.{current_so}
use Rattle.liveness_laws.proofs.Ids.{highest_id, moves_ids}
use Rattle.liveness_laws.proofs.Places.{moves_places, one_more, places}
use Rattle.liveness_laws.proofs.Restart.{pursues_run}
use Rattle.liveness_laws.specs.Leading.{CatchesUp}
use Rattle.liveness_laws.specs.Listable.{FitsIn, HasRoom, IsListable, listed_now}
use Rattle.settling_laws.specs.Applying.{CanBeStored, ServesSummaries, apply_call}
use Rattle.settling_laws.specs.Rest.{IsAtRest, SettledRests}
use Rattle.settling_laws.specs.Resting.{CanComeToRest, CanSay, Catches, ComesToRest, RestComes}
use Rattle.settling_laws.specs.Settling.{CanReconcile, SettledStays, Settles, SettlesTo, StaysSettled, counts, place_key}
use Rattle.settling_laws.proofs.Again.{same_listed}
use Rattle.settling_laws.proofs.Rest.{runs_then}
use Rattle.settling_laws.proofs.Resting.{untouched}
use Rattle.settling_laws.proofs.Rooms.{reconciled_id, reconciled_places}

module _ (catches : CatchesUp) (settles : Settles) (rests : SettledRests) (stays : SettledStays) (types : List ServedShape) (task : Task) (kind pages : ℕ) (shapes : AreObjectTypes types) (is : IsTask types task) (apart : kind ≢ task.settings.kind)
    (before : List WorldEvent) (w : World) (earlier : List Report) (run : Runs task 1 (start types) before w earlier) (can : CanComeToRest task kind pages w) where
  abbrev i : ℕ
  i = suc (length before)

  -- ---- it catches up

  caught : Catches task i w pages
  caught =
      let ids : highest_id w + (2 * (20 + 3 * pages) + 2) ≤ 18446744073709551615 = can.ids in
      let free : places w + 2 < max_open = can.room in
      catches types task before w earlier pages shapes is run can.fits can.listable (record { ids = omega (arith, ids); room = omega (arith, free) })

  abbrev first : World
  first = caught.end

  abbrev now : Cache
  now = caught.goal.now

  abbrev s : Summed
  s = counts task now

  abbrev events : List WorldEvent
  events = before ++ caught.moves

  abbrev reports : List Report
  reports = earlier ++ caught.reports

  run_first : Runs task 1 (start types) events first reports
  run_first = runs_then task 1 i (start types) w first before caught.moves earlier caught.reports (omega arith) run (pursues_run task i w caught.moves first caught.reports caught.pursues)

  say : CanSay task kind w s
  say = can.say now.objects (subst (λ (m : History). IsStateAt (wanted_by task) (listed_now task m) now.objects) caught.server.0 caught.goal.objects)

  first_ids : highest_id first ≤ highest_id w + (20 + 3 * pages)
  first_ids =
      let more : highest_id first ≤ highest_id w + length caught.moves = moves_ids task i w caught.moves first caught.reports caught.pursues in
      let few : length caught.moves ≤ 20 + 3 * pages = caught.bound in
      omega (arith, more, few)

  first_places : places first ≤ places w
  first_places = moves_places task i w caught.moves first caught.reports caught.pursues

  -- ---- it reconciles

  can_reconcile : CanReconcile task kind first now
  can_reconcile =
      let ids : highest_id w + (2 * (20 + 3 * pages) + 2) ≤ 18446744073709551615 = can.ids in
      let free : places w + 2 < max_open = can.room in
      let high : highest_id first ≤ highest_id w + (20 + 3 * pages) = first_ids in
      let fewer : places first ≤ places w = first_places in
      let one : open_count first.hub.connections ≤ places first + 1 = one_more first.hub.connections first.connection in
      record {
        serves = subst (λ (ts : List ServedShape). ServesSummaries ts kind) (sym caught.server.1) can.serves;
        named = can.named;
        label = can.label;
        unicode = subst (λ (m : History). AreUnicode m.changes) (sym caught.server.0) can.listable.unicode;
        fit = say.fit;
        stored = subst (λ (ts : List ServedShape). CanBeStored ts first.hub.machine (place_key task kind) s) (sym caught.server.1)
            (subst (λ (m : History). CanBeStored w.hub.types m (place_key task kind) s) (sym caught.server.0) say.stored);
        room = record { ids = omega (arith, ids, high); room = omega (arith, free, fewer, one) };
      }

  settled : SettlesTo task kind first now
  settled = settles types task events first reports now kind shapes is run_first caught.goal.kept (current_so task first caught.goal) can_reconcile

  abbrev second : World
  second = settled.end

  abbrev j : ℕ
  j = suc (length events)

  run_second : Runs task 1 (start types) (events ++ reconcile ∷ []) second (reports ++ (reports_after j first second ++ []))
  run_second = runs_then task 1 j (start types) first second events (reconcile ∷ []) reports (reports_after j first second ++ []) (omega arith) run_first (second, [], settled.steps, (refl, refl), refl)

  second_ids : highest_id second ≤ highest_id w + (21 + 3 * pages)
  second_ids =
      let high : highest_id first ≤ highest_id w + (20 + 3 * pages) = first_ids in
      let more : highest_id second ≤ highest_id first + 1 = reconciled_id task first second settled.steps in
      omega (arith, high, more)

  second_places : places second ≤ places w + 1
  second_places =
      let fewer : places first ≤ places w = first_places in
      let more : places second ≤ places first + 1 = reconciled_places task first second settled.steps in
      omega (arith, fewer, more)

  -- ---- it catches up again

  fits : FitsIn task second.hub.machine pages
  fits =
      let same : listed_now task second.hub.machine ≡ listed_now task w.hub.machine =
      same_listed task kind apart first.hub.types first.hub.machine second.hub.machine s settled.counted ∙ ap (listed_now task) caught.server.0 in
      record { some = can.fits.some; hold = subst (λ (o : Standing). fin.len o ≤ pages * task.settings.page) (sym same) can.fits.hold }

  listable : IsListable task second.hub.machine
  listable =
      subst (IsListable task)
      (sym (settled.applied
      ∙ ap₂ (λ (ts : List ServedShape) (m : History). (step ts m (at_tick first.hub.last_tick (apply_call kind s task.settings.summary))).1) caught.server.1 caught.server.0
      ∙ ap (λ (ms : ℕ). (step w.hub.types w.hub.machine (at_tick ms (apply_call kind s task.settings.summary))).1) caught.server.2)) say.listable

  again : Catches task (suc j) second pages
  again =
      let ids : highest_id w + (2 * (20 + 3 * pages) + 2) ≤ 18446744073709551615 = can.ids in
      let free : places w + 2 < max_open = can.room in
      let high : highest_id second ≤ highest_id w + (21 + 3 * pages) = second_ids in
      let more : places second ≤ places w + 1 = second_places in
      let both : length (events ++ reconcile ∷ []) ≡ length events + 1 = length-append events (reconcile ∷ []) in
      subst (λ (n : ℕ). Catches task n second pages) (omega (arith, both))
      (catches types task (events ++ reconcile ∷ []) second (reports ++ (reports_after j first second ++ [])) pages shapes is run_second fits listable (record { ids = omega (arith, ids, high); room = omega (arith, free, more) }))

  -- ---- it is at rest

  room : HasRoom again.end.hub.connections 1
  room =
      let ids : highest_id w + (2 * (20 + 3 * pages) + 2) ≤ 18446744073709551615 = can.ids in
      let free : places w + 2 < max_open = can.room in
      let high : highest_id second ≤ highest_id w + (21 + 3 * pages) = second_ids in
      let higher : highest_id again.end ≤ highest_id second + length again.moves = moves_ids task (suc j) second again.moves again.end again.reports again.pursues in
      let few : length again.moves ≤ 20 + 3 * pages = again.bound in
      let more : places second ≤ places w + 1 = second_places in
      let fewer : places again.end ≤ places second = moves_places task (suc j) second again.moves again.end again.reports again.pursues in
      let one : open_count again.end.hub.connections ≤ places again.end + 1 = one_more again.end.hub.connections again.end.connection in
      record { ids = omega (arith, ids, high, higher, few); room = omega (arith, free, more, fewer, one) }

  abbrev Rested : ℕ → Type 0
  Rested n = (last : Catches task n second pages) × IsAtRest task kind last.end last.goal.now × StaysSettled task last.end

  rested : Rested (suc j)
  rested =
      let on : Runs task (suc j) second again.moves again.end again.reports = pursues_run task (suc j) second again.moves again.end again.reports again.pursues in (
        again,
        rests types task events again.moves first second again.end reports again.reports now again.goal.now kind shapes is apart run_first caught.goal.kept (current_so task first caught.goal) can_reconcile settled.steps on
            (untouched task kind second again.end again.server) again.goal.kept (current_so task again.end again.goal),
        stays types task events again.moves first second again.end reports again.reports now again.goal.now kind shapes is apart run_first caught.goal.kept (current_so task first caught.goal) can_reconcile settled.steps on
            (untouched task kind second again.end again.server) again.goal.kept (current_so task again.end again.goal) room,
      )

  pub rest_comes : RestComes task kind i w pages
  rest_comes =
      let both : length events ≡ length before + length caught.moves = length-append before caught.moves in
      let numbered : Rested (suc (i + length caught.moves)) = subst Rested (omega (arith, both)) rested in
      record { caught = caught; settled = settled; again = numbered.0; rest = numbered.1; stays = numbered.2 }

pub comes_to_rest : CatchesUp → Settles → SettledRests → SettledStays → ComesToRest
comes_to_rest catches settles rests stays types task before w earlier pages kind shapes is apart run can =
    rest_comes catches settles rests stays types task kind pages shapes is apart before w earlier run can
