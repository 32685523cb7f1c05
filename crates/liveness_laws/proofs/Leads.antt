-- Events, one after the other, each of which may happen where it does, and what they leave.
use Rattle.std.proofs.Common.{◌≡◌, ◌⊎◌, inl, inr, ℕ, suc, ◌+◌, ◌≤◌, ◌&&◌, Bool, true, false, List, [], ◌∷◌, ◌++◌, length, refl, ap₂, arith}
use Rattle.std.specs.List.{list_all}
use Rattle.liveness_laws.proofs.Keeping.{Keeps, keeps_hub, keeps_then}
use Rattle.liveness_laws.specs.Leading.{IsCurrentOrIdle, LeadsTo}
use Rattle.world_laws.specs.Moves.{Pursues, is_current, next_move}
use Rattle.reflector.specs.Client.{SyncPhase}
use Rattle.std.specs.Prelude.{Some}
use Rattle.world_laws.specs.Reports.{Report, Runs, reports_after}
use Rattle.world_laws.specs.Tasks.{Task}
use Rattle.world_laws.specs.World.{Steps, World, WorldEvent}

-- these events, numbered from i on, lead from one world to another with these reports, and each may happen where it does
abbrev pub Goes : (World → WorldEvent → Type 0) → Task → ℕ → World → List WorldEvent → World → List Report → Type 0
Goes May task i w [] v reports = (v ≡ w) × (reports ≡ [])
Goes May task i w (e ∷ es) v reports = (mid : World) × (others : List Report) × May w e × Steps task w e mid × Goes May task (suc i) mid es v others × (reports ≡ reports_after i w mid ++ others)

-- at most so many events lead to such a world; among them are so many requests
pub record LeadsBy (May : World → WorldEvent → Type 0) (task : Task) (i : ℕ) (w : World) (most sends : ℕ) (Goal : World → Type 0) : Type 0 where
  pub moves : List WorldEvent
  pub end : World
  pub reports : List Report
  pub goes : Goes May task i w moves end reports
  pub bound : length moves ≤ most
  pub keeps : Keeps w end sends
  pub goal : Goal end

-- the client is where the machine is, or awaits no reply, in such a phase
abbrev pub IsDone : (SyncPhase → Type 0) → World → Type 0
IsDone InPhase v = (is_current v ≡ true) ⊎ ((v.client.is_awaiting_reply ≡ false) × InPhase v.client.sync)

module _ (May : World → WorldEvent → Type 0) (task : Task) where
  -- nothing needs to happen
  pub here_by : (i most : ℕ) (w : World) (Goal : World → Type 0) → Goal w → LeadsBy May task i w most 0 Goal
  here_by i most w Goal is = record {
    moves = [];
    end = w;
    reports = [];
    goes = (refl, refl);
    bound = omega arith;
    keeps = keeps_hub w w.client w.connection (λ id isnt. isnt);
    goal = is;
  }

  -- an event, and what follows
  pub by_event : (i most a b c : ℕ) (w v : World) (e : WorldEvent) (Goal : World → Type 0) → a + b ≡ c → May w e → Steps task w e v → Keeps w v a → LeadsBy May task (suc i) v most b Goal
      → LeadsBy May task i w (suc most) c Goal
  by_event i most a b c w v e Goal sum may steps keeps rest =
      let few : length rest.moves ≤ most = rest.bound in
      record {
        moves = e ∷ rest.moves;
        end = rest.end;
        reports = reports_after i w v ++ rest.reports;
        goes = (v, rest.reports, may, steps, rest.goes, refl);
        bound = omega (arith, few);
        keeps = keeps_then w v rest.end a b c sum keeps rest.keeps;
        goal = rest.goal;
      }

  -- with events to spare
  pub within_by : (i most more sends : ℕ) (w : World) (Goal : World → Type 0) → most ≤ more → LeadsBy May task i w most sends Goal → LeadsBy May task i w more sends Goal
  within_by i most more sends w Goal low first =
      let few : length first.moves ≤ most = first.bound in
      record { moves = first.moves; end = first.end; reports = first.reports; goes = first.goes; bound = omega (arith, few, low); keeps = first.keeps; goal = first.goal }

pub current_or_idle : (sends : ℕ) (w v : World) (InPhase : SyncPhase → Type 0) → Keeps w v sends → IsDone InPhase v → IsCurrentOrIdle sends InPhase w v
current_or_idle sends w v InPhase keeps (inl current) = inl current
current_or_idle sends w v InPhase keeps (inr (silent, phase)) =
    inr (record { silent = silent; ids = keeps.ids; room = keeps.room; others = λ id c got isnt. (keeps.others id c got isnt).0 }, phase)

-- ---- events of a kind

-- whatever the world is
abbrev pub IsOf : (WorldEvent → Bool) → World → WorldEvent → Type 0
IsOf is_such w e = (is_such e ≡ true)

pub goes_run : (is_such : WorldEvent → Bool) (task : Task) (i : ℕ) (w : World) (es : List WorldEvent) (v : World) (reports : List Report) → Goes (IsOf is_such) task i w es v reports → Runs task i w es v reports
goes_run is_such task i w [] v reports is = is
goes_run is_such task i w (e ∷ es) v reports (mid, others, may, steps, rest, are) = (mid, others, steps, goes_run is_such task (suc i) mid es v others rest, are)

pub goes_each : (is_such : WorldEvent → Bool) (task : Task) (i : ℕ) (w : World) (es : List WorldEvent) (v : World) (reports : List Report) → Goes (IsOf is_such) task i w es v reports → list_all is_such es ≡ true
goes_each is_such task i w [] v reports is = refl
goes_each is_such task i w (e ∷ es) v reports (mid, others, may, steps, rest, are) = ap₂ (λ (a b : Bool). a && b) may (goes_each is_such task (suc i) mid es v others rest)

-- ---- moves of the schedule

abbrev pub IsNext : World → WorldEvent → Type 0
IsNext w e = (next_move w ≡ Some e)

abbrev pub Leads : Task → ℕ → World → ℕ → ℕ → (World → Type 0) → Type 0
Leads task i w most sends Goal = LeadsBy IsNext task i w most sends Goal

goes_pursue : (task : Task) (i : ℕ) (w : World) (es : List WorldEvent) (v : World) (reports : List Report) → Goes IsNext task i w es v reports → Pursues task i w es v reports
goes_pursue task i w [] v reports is = is
goes_pursue task i w (e ∷ es) v reports (mid, others, may, steps, rest, are) = (mid, others, may, steps, goes_pursue task (suc i) mid es v others rest, are)

module _ (task : Task) where
  pub here : (i most : ℕ) (w : World) (Goal : World → Type 0) → Goal w → Leads task i w most 0 Goal
  here i most w Goal is = here_by IsNext task i most w Goal is

  pub by_move : (i most a b c : ℕ) (w v : World) (e : WorldEvent) (Goal : World → Type 0) → a + b ≡ c → next_move w ≡ Some e → Steps task w e v → Keeps w v a → Leads task (suc i) v most b Goal
      → Leads task i w (suc most) c Goal
  by_move i most a b c w v e Goal sum is_next steps keeps rest = by_event IsNext task i most a b c w v e Goal sum is_next steps keeps rest

  pub within : (i most more sends : ℕ) (w : World) (Goal : World → Type 0) → most ≤ more → Leads task i w most sends Goal → Leads task i w more sends Goal
  within i most more sends w Goal low first = within_by IsNext task i most more sends w Goal low first

  pub leads_to : (i most sends : ℕ) (w : World) (InPhase : SyncPhase → Type 0) → Leads task i w most sends (IsDone InPhase) → LeadsTo task i w most (IsCurrentOrIdle sends InPhase w)
  leads_to i most sends w InPhase is = record {
    moves = is.moves;
    end = is.end;
    reports = is.reports;
    pursues = goes_pursue task i w is.moves is.end is.reports is.goes;
    bound = is.bound;
    server = is.keeps.server;
    others = λ id c got isnt. let kept = is.keeps.others id c got isnt in (kept.1, kept.2);
    goal = current_or_idle sends w is.end InPhase is.keeps is.goal;
  }
