-- What gives a connection its next turn, as the code finds it.
use Rattle.std.proofs.Common.{◌≡◌, ◌∙◌, ℕ, Bool, true, false, List, Option, Some, None, Result, Ok, Err, ap, ap₂, refl, sym}
use Rattle.std.specs.Prelude.{option_and_then}
use Rattle.std.specs.FinMap as fin
use Rattle.api_types.specs.TypesFile.{ServedShape}
use Rattle.httpedge.specs.declared.connection.Connection as conns
use Rattle.httpedge.specs.declared.connection.Connection.TheVariants as conn
use Rattle.httpedge.specs.Connections.{Connection, Phase, waiting, watching, ended, gone, is_open}
use Rattle.httpedge.specs.ConnectionViews.{ConnectionRepresents, ConnectionRepresentsAt, closed_by, phase_in}
use Rattle.httpedge.specs.NextTurns.{next_turn, turn_in}
use Rattle.httpedge.specs.Steps.{State}

-- one that isn't open has none
closed_turn : (id current tick : ℕ) (st : Phase) → is_open st ≡ false → turn_in id current tick st ≡ None
closed_turn id current tick (waiting prefix) closed = absurd cc
closed_turn id current tick (watching w) closed = absurd cc
closed_turn id current tick ended closed = refl
closed_turn id current tick (gone had_ended) closed = refl

-- nor has one that isn't held
pub turn_over : (id current tick : ℕ) (a b : Bool) → None ≡ option_and_then (λ d. turn_in id current tick (phase_in d)) (closed_by a b)
turn_over id current tick true b = refl
turn_over id current tick false true = refl
turn_over id current tick false false = refl

same_turn : (types : List ServedShape) (id current tick : ℕ) (d : conns.Connection) (c : Connection) → ConnectionRepresents types d c → turn_in id current tick (phase_in d) ≡ turn_in id current tick c.phase
same_turn types id current tick (conn.Head prefix) c is = sym (ap (λ (x : Connection). turn_in id current tick x.phase) is)
same_turn types id current tick (conn.Body prefix p) c (is, awaits) = sym (ap (λ (x : Connection). turn_in id current tick x.phase) is)
same_turn types id current tick (conn.Watch w out) c (is, rest, low) = sym (ap (turn_in id current tick) is)
same_turn types id current tick (conn.Ended out) c (is, rest) = sym (ap (turn_in id current tick) is)
same_turn types id current tick (conn.Closed had_ended) c (closed, had, none) = sym (closed_turn id current tick c.phase closed)

turn_at : (types : List ServedShape) (id current tick : ℕ) (o : Option conns.Connection) (p : Option Connection) → ConnectionRepresentsAt types o p
    → option_and_then (λ d. turn_in id current tick (phase_in d)) o ≡ option_and_then (λ c. turn_in id current tick c.phase) p
turn_at types id current tick None None holds = refl
turn_at types id current tick None (Some c) holds = absurd holds
turn_at types id current tick (Some d) None holds = absurd holds
turn_at types id current tick (Some d) (Some c) holds = same_turn types id current tick d c holds

-- by the machine's current revision and the last tick it is that of the state
pub turn_is : (s : State) (id current tick : ℕ) (o : Option conns.Connection) → current ≡ s.machine.current → tick ≡ s.last_tick → ConnectionRepresentsAt s.types o (fin.get s.connections id)
    → option_and_then (λ d. turn_in id current tick (phase_in d)) o ≡ next_turn s id
turn_is s id current tick o revision time holds =
    turn_at s.types id current tick o (fin.get s.connections id) holds
    ∙ ap₂ (λ (n t : ℕ). option_and_then (λ (c : Connection). turn_in id n t c.phase) (fin.get s.connections id)) revision time

-- ---- the machine's numbers, as they are told

abbrev first_of : {E : Type 0} → Result (ℕ × ℕ) E → ℕ
first_of (Ok p) = p.0
first_of (Err e) = 0

-- the current revision is the first
pub told_current : {E : Type 0} (current compacted : ℕ) (p : ℕ × ℕ) (told : Result (ℕ × ℕ) E) → told ≡ Ok (current, compacted) → told ≡ Ok p → current ≡ p.0
told_current current compacted p told is holds = ap first_of (sym is ∙ holds)

pub told_none : {E : Type 0} (e : E) (p : ℕ × ℕ) (told : Result (ℕ × ℕ) E) → told ≡ Err e → told ≡ Ok p → ⊥
told_none e p told is holds = cc
