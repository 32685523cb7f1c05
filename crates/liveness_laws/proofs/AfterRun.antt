-- What is known of the world after any run: the client follows the machine, and has the connection on which it awaits a reply.
use Rattle.std.proofs.Common.{ℕ, suc, List, [], ◌∷◌, refl, sym, subst, arith}
use Rattle.api_types.specs.TypesFile.{ServedShape}
use Rattle.history.specs.History.{fresh}
use Rattle.verbs.proofs.Machines.{machines_begin}
use Rattle.verbs.specs.Machine.{AreObjectTypes}
use Rattle.liveness_laws.proofs.Held.{IsHeldIn, silent, stepped}
use Rattle.world_laws.proofs.Action.{steps_hold}
use Rattle.world_laws.proofs.Laws.{Laws}
use Rattle.world_laws.proofs.Mirror.{server_of}
use Rattle.world_laws.proofs.RunInvariant.{RunInvariant}
use Rattle.world_laws.proofs.Shaped.{is_still}
use Rattle.world_laws.specs.Reports.{Report, Runs}
use Rattle.world_laws.specs.Tasks.{IsTask, Task, wanted_by}
use Rattle.world_laws.specs.World.{World, WorldEvent, start}

pub record IsKnown (task : Task) (w : World) : Type 0 where
  pub highest : ℕ
  pub follows : RunInvariant task highest w
  pub held : IsHeldIn w

module _ (laws : Laws) (task : Task) where
  ran : (i : ℕ) (w : World) (es : List WorldEvent) (v : World) (reports : List Report) → Runs task i w es v reports → IsKnown task w → IsKnown task v
  ran i w [] v reports is known = subst (IsKnown task) (sym is.0) known
  ran i w (e ∷ es) v reports (mid, others, steps, runs, are) known =
      let on = steps_hold laws task known.highest w mid e known.follows steps in
      ran (suc i) mid es v others runs (record { highest = on.0; follows = on.2; held = stepped task known.highest w mid e known.follows steps known.held })

  pub known_after : (types : List ServedShape) (es : List WorldEvent) (w : World) (reports : List Report) → AreObjectTypes types → IsTask types task → Runs task 1 (start types) es w reports → IsKnown task w
  known_after types es w reports shapes is run =
      ran 1 (start types) es w reports run (record {
        highest = 1;
        follows = record {
          begun = omega arith;
          task_is = is_still types task is;
          machine = machines_begin types 1 shapes (omega arith) (omega arith);
          goes = laws.client.is_restarted (server_of task (fresh 1)) (wanted_by task) 1 (start types).client [] 0 (omega arith);
        };
        held = silent (start types) refl;
      })
