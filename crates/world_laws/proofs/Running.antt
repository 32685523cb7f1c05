-- Over a run each report is right, and what is kept is.
use Rattle.std.proofs.Common.{◌≡◌, ℕ, suc, ◌≤◌, Bool, true, false, List, [], ◌∷◌, ◌++◌, Option, Some, None, sym, subst, arith}
use Rattle.std.specs.Prelude.{nat_lt, if◌then◌else◌}
use Rattle.api_types.specs.TypesFile.{ServedShape}
use Rattle.verbs.proofs.Machines.{machines_begin}
use Rattle.history.specs.History.{History, fresh}
use Rattle.verbs.specs.Machine.{AreObjectTypes, IsMachine}
use Rattle.reflector.specs.Client.{Cache}
use Rattle.reflector.specs.FollowsLaws.{IsCacheOf}
use Rattle.world_laws.proofs.Action.{steps_hold}
use Rattle.world_laws.proofs.RunInvariant.{RunInvariant}
use Rattle.world_laws.proofs.Mirror.{server_of}
use Rattle.world_laws.proofs.Moving.{goes_follows}
use Rattle.world_laws.proofs.Pages.{mirror_is_right}
use Rattle.world_laws.proofs.Laws.{Laws}
use Rattle.world_laws.proofs.Shaped.{is_still}
use Rattle.world_laws.specs.Headline.{Headline}
use Rattle.world_laws.specs.Reports.{AreRight, IsKeptRight, IsRight, IsStateAt, Report, Runs, last_reported, reports_between}
use Rattle.world_laws.specs.Tasks.{IsStillTask, IsTask, Task, selected_at, wanted_by, with_shape}
use Rattle.world_laws.specs.World.{World, WorldEvent, start}

module _ (laws : Laws) (task : Task) where
  -- ---- what is kept

  is_right : (types : List ServedShape) (h : History) (lo m : ℕ) (now : Cache) → IsStillTask types task → IsMachine types h → lo ≤ m → m ≤ h.current → IsCacheOf (server_of task h) m (Some now) → IsRight task lo h now
  is_right types h lo m now (shape, is_task) is_machine low top cached =
      let same : now.revision ≡ m = cached.0 in
      record {
        low = omega (arith, same, low);
        high = omega (arith, same, top);
        objects = subst (IsStateAt (wanted_by task) (selected_at task h now.revision)) (sym cached.1) (mirror_is_right types (with_shape task shape) h now.revision is_task is_machine);
      }

  kept_right : (types : List ServedShape) (h : History) (lo m : ℕ) (cache : Option Cache) → IsStillTask types task → IsMachine types h → lo ≤ m → m ≤ h.current → IsCacheOf (server_of task h) m cache → IsKeptRight task lo h cache
  kept_right types h lo m None task_is is_machine low top cached = tt
  kept_right types h lo m (Some now) task_is is_machine low top cached = is_right types h lo m now task_is is_machine low top cached

  -- ---- the reports

  -- the revision of the last isn't above one up to which it holds
  record EndsWell (lo : ℕ) (v : World) (reports : List Report) : Type 0 where
    highest : ℕ
    low : last_reported lo reports ≤ highest
    holds : RunInvariant task highest v

  -- and each is right
  abbrev GoWell : ℕ → World → List Report → Type 0
  GoWell lo v reports = AreRight task lo reports × EndsWell lo v reports

  one_report : (types : List ServedShape) (i lo m : ℕ) (h : History) (now : Cache) (others : List Report) (v : World) → IsStillTask types task → IsMachine types h → lo ≤ m → m ≤ h.current → IsCacheOf (server_of task h) m (Some now)
      → ((lo : ℕ) → lo ≤ m → GoWell lo v others) → GoWell lo v (record { event = i; machine = h; now = now } ∷ others)
  one_report types i lo m h now others v task_is is_machine low top cached rest =
      let same : now.revision ≡ m = cached.0 in
      let on = rest now.revision (omega (arith, same)) in
      ((is_right types h lo m now task_is is_machine low top cached, on.0), record { highest = on.1.highest; low = on.1.low; holds = on.1.holds })

  between : (types : List ServedShape) (i lo m : ℕ) (h : History) (was now : Option Cache) (others : List Report) (v : World) → IsStillTask types task → IsMachine types h → lo ≤ m → m ≤ h.current → IsCacheOf (server_of task h) m now
      → ((lo : ℕ) → lo ≤ m → GoWell lo v others) → GoWell lo v (reports_between i h was now ++ others)
  between types i lo m h was None others v task_is is_machine low top cached rest = rest lo low
  between types i lo m h None (Some now) others v task_is is_machine low top cached rest = one_report types i lo m h now others v task_is is_machine low top cached rest
  between types i lo m h (Some was) (Some now) others v task_is is_machine low top cached rest = go (nat_lt was.revision now.revision)
    where
      go : (b : Bool) → GoWell lo v ((if b then record { event = i; machine = h; now = now } ∷ [] else []) ++ others)
      go true = one_report types i lo m h now others v task_is is_machine low top cached rest
      go false = rest lo low

  run_well : (i lo m : ℕ) (w : World) (es : List WorldEvent) (v : World) (reports : List Report) → lo ≤ m → RunInvariant task m w → Runs task i w es v reports → GoWell lo v reports
  run_well i lo m w [] v reports low is (same, none) =
      subst (GoWell lo v) (sym none) (tt, record { highest = m; low = low; holds = subst (RunInvariant task m) (sym same) is })
  run_well i lo m w (e ∷ es) v reports low is (mid, others, steps, rest, are) =
      let on = steps_hold laws task m w mid e is steps in
      let higher : m ≤ on.0 = on.1 in
      let follows = goes_follows task mid.hub.machine on.0 mid.client mid.client.is_awaiting_reply mid.connection mid.hub.connections on.2.goes in
      subst (GoWell lo v) (sym are)
      (between mid.hub.types i lo on.0 mid.hub.machine w.client.cache mid.client.cache others v on.2.task_is on.2.machine (omega (arith, low, higher)) follows.2.low follows.2.cache
      (λ lo low. run_well (suc i) lo on.0 mid es v others low on.2 rest))

  -- ---- the start

  start_holds : (types : List ServedShape) → IsTask types task → AreObjectTypes types → RunInvariant task 1 (start types)
  start_holds types is shapes =
      record {
        begun = omega arith;
        task_is = is_still types task is;
        machine = machines_begin types 1 shapes (omega arith) (omega arith);
        goes = laws.client.is_restarted (server_of task (fresh 1)) (wanted_by task) 1 (start types).client [] 0 (omega arith);
      }

pub whole_run : Laws → Headline
whole_run laws types task es v reports shapes is_task runs =
    let well = run_well laws task 1 1 1 (start types) es v reports (omega arith) (start_holds laws task types is_task shapes) runs in
    let holds = well.1.holds in
    let follows = goes_follows task v.hub.machine well.1.highest v.client v.client.is_awaiting_reply v.connection v.hub.connections holds.goes in
    (well.0, kept_right laws task v.hub.types v.hub.machine (last_reported 1 reports) well.1.highest v.client.cache holds.task_is holds.machine well.1.low follows.2.low follows.2.cache)
