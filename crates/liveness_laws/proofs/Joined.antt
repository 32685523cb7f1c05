-- Moves that lead on from where others led.
use Rattle.std.proofs.Common.{◌≡◌, ◌∙◌, ℕ, zero, suc, ◌+◌, ◌*◌, ◌≤◌, true, List, [], ◌∷◌, ◌++◌, length, Option, Some, refl, sym, ap, ap₂, subst, arith, append_assoc, eq-eqb, length-append}
use Rattle.api_types.specs.TypesFile.{ServedShape}
use Rattle.history.specs.History.{History}
use Rattle.httpedge.specs.Connections.{Connection}
use Rattle.httpedge.specs.Steps.{State, with_turn}
use Rattle.httpedge.specs.Watches.{ticked}
use Rattle.liveness_laws.proofs.Rounds.{number_after, pursues_then}
use Rattle.liveness_laws.specs.Leading.{LeadsTo, OthersRemain, OthersTick, ticked_times}
use Rattle.world_laws.specs.Moves.{Pursues, is_at, is_current}
use Rattle.liveness_laws.specs.Progress.{ComesAnew, RevisionComes}
use Rattle.reflector.specs.Client.{Cache}
use Rattle.world_laws.specs.Reports.{Report, Runs, reports_after, reports_between}
use Rattle.world_laws.specs.Tasks.{Task}
use Rattle.world_laws.specs.World.{World, WorldEvent}

-- the client has the machine's revision
abbrev pub IsThere : World → Type 0
IsThere v = (is_current v ≡ true)

-- ---- events in turn

pub number_is : (i : ℕ) (es : List WorldEvent) → number_after i es ≡ i + length es
number_is i [] = omega arith
number_is i (e ∷ es) = let rest : number_after (suc i) es ≡ suc i + length es = number_is (suc i) es in omega (arith, rest)

pub runs_then : (task : Task) (i : ℕ) (w mid v : World) (es fs : List WorldEvent) (reports others : List Report) → Runs task i w es mid reports → Runs task (number_after i es) mid fs v others → Runs task i w (es ++ fs) v (reports ++ others)
runs_then task i w mid v [] fs reports others (same, none) more =
    subst (λ (x : World). Runs task i x fs v (reports ++ others)) same (subst (λ (l : List Report). Runs task i mid fs v (l ++ others)) (sym none) more)
runs_then task i w mid v (e ∷ es) fs reports others (one, rest, steps, runs, are) more = (
  one,
  rest ++ others,
  steps,
  runs_then task (suc i) one mid v es fs rest others runs more,
  ap (λ (l : List Report). l ++ others) are ∙ append_assoc _ rest others,
)

-- ---- ticks

-- so many ticks behind so many are as many as both
pub ticks_join : (s t : State) (n m : ℕ) (c : Connection) → t.types ≡ s.types → t.last_tick ≡ s.last_tick → (k : ℕ) × (ticked_times t m (ticked_times s n c) ≡ ticked_times s k c)
ticks_join s t n zero c types tick = (n, refl)
ticks_join s t n (suc m) c types tick =
    let rest = ticks_join s t n m c types tick in (
      suc rest.0,
      ap₂ (λ (l : List ServedShape) (ms : ℕ). with_turn (ticked l ms) (ticked_times t m (ticked_times s n c))) types tick ∙ ap (with_turn (ticked s.types s.last_tick)) rest.1,
    )

-- ---- by another number

-- the same moves, numbered from another event on
renumbered : (task : Task) (i j : ℕ) (w : World) (es : List WorldEvent) (v : World) (reports : List Report) → Pursues task i w es v reports → (others : List Report) × Pursues task j w es v others
renumbered task i j w [] v reports (same, none) = ([], (same, refl))
renumbered task i j w (e ∷ es) v reports (mid, others, is_next, steps, rest, are) =
    let later = renumbered task (suc i) (suc j) mid es v others rest in
    (reports_after j w mid ++ later.0, (mid, later.0, is_next, steps, later.1, refl))

pub from_number : (task : Task) (i j most : ℕ) (w : World) (Goal : World → Type 0) → LeadsTo task i w most Goal → LeadsTo task j w most Goal
from_number task i j most w Goal leads =
    let numbered = renumbered task i j w leads.moves leads.end leads.reports leads.pursues in
    record {
      moves = leads.moves;
      end = leads.end;
      reports = numbered.0;
      pursues = numbered.1;
      bound = leads.bound;
      server = leads.server;
      others = leads.others;
      goal = leads.goal;
    }

-- ---- moves behind moves

module _ (task : Task) where
  -- within more moves as well
  pub within : (i most more : ℕ) (w : World) (Goal : World → Type 0) → most ≤ more → LeadsTo task i w most Goal → LeadsTo task i w more Goal
  within i most more w Goal less leads =
      let few : length leads.moves ≤ most = leads.bound in
      let fewer : most ≤ more = less in
      record {
        moves = leads.moves;
        end = leads.end;
        reports = leads.reports;
        pursues = leads.pursues;
        bound = omega (arith, few, fewer);
        server = leads.server;
        others = leads.others;
        goal = leads.goal;
      }

  -- to a world with what is known of it
  pub ends_with : (i most : ℕ) (w : World) (Here Goal : World → Type 0) (leads : LeadsTo task i w most Here) → Goal leads.end → LeadsTo task i w most Goal
  ends_with i most w Here Goal leads goal =
      record {
        moves = leads.moves;
        end = leads.end;
        reports = leads.reports;
        pursues = leads.pursues;
        bound = leads.bound;
        server = leads.server;
        others = leads.others;
        goal = goal;
      }

  pub leads_then : (i most more : ℕ) (w : World) (Here Goal : World → Type 0) (one : LeadsTo task i w most Here) → OthersRemain w one.end → LeadsTo task (i + length one.moves) one.end more Goal → LeadsTo task i w (most + more) Goal
  leads_then i most more w Here Goal one remain rest =
      let few : length one.moves ≤ most = one.bound in
      let fewer : length rest.moves ≤ more = rest.bound in
      let both : length (one.moves ++ rest.moves) ≡ length one.moves + length rest.moves = length-append one.moves rest.moves in
      record {
        moves = one.moves ++ rest.moves;
        end = rest.end;
        reports = one.reports ++ rest.reports;
        pursues = pursues_then task i w one.end rest.end one.moves rest.moves one.reports rest.reports one.pursues
            (subst (λ (n : ℕ). Pursues task n one.end rest.moves rest.end rest.reports) (sym (number_is i one.moves)) rest.pursues);
        bound = omega (arith, few, fewer, both);
        server = (rest.server.0 ∙ one.server.0, rest.server.1 ∙ one.server.1, rest.server.2 ∙ one.server.2);
        others = others;
        goal = rest.goal;
      }
    where
      others : OthersTick w rest.end
      others id c got isnt =
          let before = one.others id c got isnt in
          let after = rest.others id (ticked_times w.hub before.0 c) before.1 (remain id c got isnt) in
          let joined = ticks_join w.hub one.end.hub before.0 after.0 c one.server.1 one.server.2 in (
            joined.0,
            after.1 ∙ ap Some joined.1,
          )

  -- ---- where it is

  -- no move is needed
  pub is_there : (i most : ℕ) (w : World) → is_current w ≡ true → LeadsTo task i w most IsThere
  is_there i most w there =
      record {
        moves = [];
        end = w;
        reports = [];
        pursues = (refl, refl);
        bound = omega arith;
        server = (refl, refl, refl);
        others = λ id c got isnt. (0, got);
        goal = there;
      }

  comes_there : (i pages : ℕ) (w : World) (comes : RevisionComes task i w pages) → is_current comes.end ≡ true
  comes_there i pages w comes =
      ap₂ (λ (m : History) (o : Option Cache). is_at m.current o) comes.machine comes.kept ∙ eq-eqb comes.now.revision w.hub.machine.current comes.is_current

  pub by_list : (i pages : ℕ) (w : World) → RevisionComes task i w pages → LeadsTo task i w (3 * pages) IsThere
  by_list i pages w comes =
      record {
        moves = comes.moves;
        end = comes.end;
        reports = reports_between comes.last w.hub.machine w.client.cache (Some comes.now);
        pursues = comes.pursues;
        bound = comes.bound;
        server = (comes.machine, comes.types, comes.tick);
        others = λ id c got isnt. (0, comes.others id c got isnt);
        goal = comes_there i pages w comes;
      }

  pub by_list_anew : (i pages : ℕ) (w : World) → ComesAnew task i w pages → LeadsTo task i w (3 + 3 * pages) IsThere
  by_list_anew i pages w anew =
      let list : RevisionComes task anew.number anew.mid pages = anew.comes in
      let few : length anew.given_up ≤ 3 = anew.few in
      let fewer : length list.moves ≤ 3 * pages = list.bound in
      let both : length (anew.given_up ++ list.moves) ≡ length anew.given_up + length list.moves = length-append anew.given_up list.moves in
      record {
        moves = anew.given_up ++ list.moves;
        end = list.end;
        reports = reports_between list.last anew.mid.hub.machine anew.mid.client.cache (Some list.now);
        pursues = pursues_then task i w anew.mid list.end anew.given_up list.moves [] (reports_between list.last anew.mid.hub.machine anew.mid.client.cache (Some list.now)) anew.gives_up
            (subst (λ (n : ℕ). Pursues task n anew.mid list.moves list.end (reports_between list.last anew.mid.hub.machine anew.mid.client.cache (Some list.now))) (anew.is_number ∙ sym (number_is i anew.given_up)) list.pursues);
        bound = omega (arith, few, fewer, both);
        server = (anew.machine, anew.types, anew.tick);
        others = λ id c got isnt. (0, anew.others id c got isnt);
        goal = comes_there anew.number pages anew.mid list;
      }
