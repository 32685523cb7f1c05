-- What holds of the world after any run: the invariant of runs, and that what an awaiting client has read isn't closed.
use Rattle.std.proofs.Common.{ℕ, suc, List, [], ◌∷◌, sym, subst, arith}
use Rattle.api_types.specs.TypesFile.{ServedShape}
use Rattle.history.specs.History.{fresh}
use Rattle.verbs.specs.Machine.{AreObjectTypes}
use Rattle.verbs.proofs.Machines.{machines_begin}
use Rattle.liveness_laws.proofs.Unclosed.{IsUnclosed, unclosed_on, unclosed_run}
use Rattle.world_laws.proofs.Action.{steps_hold}
use Rattle.world_laws.proofs.Laws.{Laws}
use Rattle.world_laws.proofs.Mirror.{server_of}
use Rattle.world_laws.proofs.RunInvariant.{RunInvariant}
use Rattle.world_laws.proofs.Shaped.{is_still}
use Rattle.world_laws.specs.Reports.{Report, Runs}
use Rattle.world_laws.specs.Tasks.{IsTask, Task, wanted_by}
use Rattle.world_laws.specs.World.{Steps, World, WorldEvent, start}

pub record Stands (task : Task) (w : World) : Type 0 where
  pub highest : ℕ
  pub holds : RunInvariant task highest w
  pub unclosed : IsUnclosed w

module _ (laws : Laws) (task : Task) where
  holds_on : (i m : ℕ) (w : World) (es : List WorldEvent) (v : World) (reports : List Report) → RunInvariant task m w → Runs task i w es v reports → (n : ℕ) × RunInvariant task n v
  holds_on i m w [] v reports is (same, none) = (m, subst (RunInvariant task m) (sym same) is)
  holds_on i m w (e ∷ es) v reports is (mid, others, steps, rest, are) =
      let on = steps_hold laws task m w mid e is steps in
      holds_on (suc i) on.0 mid es v others on.2 rest

  start_holds : (types : List ServedShape) → IsTask types task → AreObjectTypes types → RunInvariant task 1 (start types)
  start_holds types is shapes =
      record {
        begun = omega arith;
        task_is = is_still types task is;
        machine = machines_begin types 1 shapes (omega arith) (omega arith);
        goes = laws.client.is_restarted (server_of task (fresh 1)) (wanted_by task) 1 (start types).client [] 0 (omega arith);
      }

  -- after a run
  pub stands_after : (types : List ServedShape) (es : List WorldEvent) (w : World) (reports : List Report) → AreObjectTypes types → IsTask types task → Runs task 1 (start types) es w reports → Stands task w
  stands_after types es w reports shapes is run =
      let holds = holds_on 1 1 (start types) es w reports (start_holds types is shapes) run in
      record { highest = holds.0; holds = holds.1; unclosed = unclosed_run laws.one task 1 (start types) es w reports run tt }

  -- after one event more
  pub stands_on : (w v : World) (e : WorldEvent) → Stands task w → Steps task w e v → Stands task v
  stands_on w v e is steps =
      let on = steps_hold laws task is.highest w v e is.holds steps in
      record { highest = on.0; holds = on.2; unclosed = unclosed_on laws.one task w v e steps is.unclosed }
