-- What an event of the hub makes of one connection.
use Rattle.std.proofs.Common.{◌≡◌, ◌⊎◌, inl, inr, ℕ, Bool, true, false, List, ◌++◌, Option, Some, None, refl, sym, ap, subst, ◌∙◌, true≢false}
use Rattle.std.proofs.lemmas.Bool.{eq-eqb, eqb-true}
use Rattle.std.specs.FinMap as fin
use Rattle.std.specs.Prelude.{◌==◌, option_map}
use Rattle.requests.specs.Asks.{Asks, CallDecision}
use Rattle.httpedge.proofs.Connected.{got_each, new_still, put_there}
use Rattle.httpedge.proofs.Outcomes.{ComesBy, ComesOn}
use Rattle.httpedge.proofs.Staying.{others}
use Rattle.httpedge.specs.Connections.{Connection, Phase, ended, gone, is_new, waiting, watching, with_written}
use Rattle.httpedge.specs.Runs.{Steps, happens}
use Rattle.httpedge.specs.Steps.{Event, State, after_turn, by_connection, applied_event, comes, compacts, connection_after, goes, opens, pumps, refusal, retypes, phase_after, ticks, turn_bytes, unless_refused, with_connection, with_turn}
use Rattle.httpedge.specs.Watches.{Turn, Watch, pumped, ticked}
use Rattle.world_laws.specs.World.{ClientConnection, is_by_peer_on}

-- ---- refused or carried out

-- an event leaves all as it was, or is carried out
abbrev IsCarried : State → State → Event → Type 0
IsCarried s t e = (t ≡ s) ⊎ ((asked : CallDecision) × (t ≡ applied_event s e asked))

by_refusal : (s t : State) (e : Event) → Steps s e t → IsCarried s t e
by_refusal s t e (asked, asks, is) = go (refusal s e) is
  where
    go : (o : Option _) → t ≡ unless_refused o s (applied_event s e asked) → IsCarried s t e
    go None is = inr (asked, is)
    go (Some why) is = inl is

-- ---- a peer that goes

gone_new : (s t : State) (id q : ℕ) (o : Option Connection) (f : Connection → Connection) → fin.get s.connections id ≡ o → t ≡ by_connection s o (λ c. with_connection s id (f c))
    → is_new t.connections q ≡ is_new s.connections q
gone_new s t id q None f got is = ap (λ (x : State). is_new x.connections q) is
gone_new s t id q (Some c) f got is = ap (λ (x : State). is_new x.connections q) is ∙ new_still s.connections id q c (f c) got

-- the ids that are new stay so
pub goes_new : (s t : State) (id q : ℕ) → Steps s (goes id) t → is_new t.connections q ≡ is_new s.connections q
goes_new s t id q steps = go (by_refusal s t (goes id) steps)
  where
    go : IsCarried s t (goes id) → is_new t.connections q ≡ is_new s.connections q
    go (inl is) = ap (λ (x : State). is_new x.connections q) is
    go (inr (asked, is)) = gone_new s t id q (fin.get s.connections id) _ refl is

-- ---- bytes that come

-- a connection that waits gets its reply, or waits on; any other stays
abbrev pub CameOn : State → State → ℕ → Connection → List ℕ → Phase → Type 0
CameOn s t id c bytes (waiting prefix) =
    (asked : CallDecision) × Asks s.types (prefix ++ bytes) asked × (fin.get t.connections id ≡ Some (connection_after s.types s.machine s.last_tick c (prefix ++ bytes) asked))
CameOn s t id c bytes (watching w) = fin.get t.connections id ≡ Some c
CameOn s t id c bytes ended = fin.get t.connections id ≡ Some c
CameOn s t id c bytes (gone had_ended) = fin.get t.connections id ≡ Some c

came_by : (s t : State) (id : ℕ) (c : Connection) (bytes : List ℕ) (st : Phase) → fin.get s.connections id ≡ Some c → ComesOn s id c st bytes t → CameOn s t id c bytes st
came_by s t id c bytes (waiting prefix) got (asked, asks, is) =
    (asked, asks, ap (λ (x : State). fin.get x.connections id) is ∙ put_there s.connections id (connection_after s.types s.machine s.last_tick c (prefix ++ bytes) asked))
came_by s t id c bytes (watching w) got (asked, asks, is) = ap (λ (x : State). fin.get x.connections id) is ∙ got
came_by s t id c bytes ended got (asked, asks, is) = ap (λ (x : State). fin.get x.connections id) is ∙ got
came_by s t id c bytes (gone had_ended) got (asked, asks, is) = ap (λ (x : State). fin.get x.connections id) is ∙ got

pub came : (s t : State) (id : ℕ) (c : Connection) (bytes : List ℕ) → fin.get s.connections id ≡ Some c → Steps s (comes id bytes) t → CameOn s t id c bytes c.phase
came s t id c bytes got steps =
    let by : ComesBy s id (Some c) bytes t = subst (λ (o : Option Connection). ComesBy s id o bytes t) got steps in
    came_by s t id c bytes c.phase got (by.0, by.1, by.2)

-- ---- events of other peers, of watches, of the clock, compactions, and other types

abbrev pub IsTurn : State → Watch → Turn → Type 0
IsTurn s w turn = ((max : ℕ) × (turn ≡ pumped s.machine max w)) ⊎ ((ms : ℕ) × (turn ≡ ticked s.types ms w))

-- it watches, and has its turn
pub record HasTurn (s : State) (c : Connection) (o : Option Connection) : Type 0 where
  pub w : Watch
  pub turn : Turn
  pub watches : c.phase ≡ watching w
  pub is_turn : IsTurn s w turn
  pub is : o ≡ Some (with_written c (turn_bytes turn) (phase_after turn.next))

abbrev pub StaysOrTurns : State → Connection → Option Connection → Type 0
StaysOrTurns s c o = (o ≡ Some c) ⊎ HasTurn s c o

turned_by : (s : State) (c : Connection) (o : Option Connection) (turn : Watch → Turn) (st : Phase) → c.phase ≡ st → ((w : Watch) → IsTurn s w (turn w)) → o ≡ Some (after_turn turn c st) → StaysOrTurns s c o
turned_by s c o turn (waiting prefix) represents is_turn is = inl is
turned_by s c o turn (watching w) represents is_turn is = inr (record { w = w; turn = turn w; watches = represents; is_turn = is_turn w; is = is })
turned_by s c o turn ended represents is_turn is = inl is
turned_by s c o turn (gone had_ended) represents is_turn is = inl is

turned : (s : State) (c : Connection) (o : Option Connection) (turn : Watch → Turn) → ((w : Watch) → IsTurn s w (turn w)) → o ≡ Some (with_turn turn c) → StaysOrTurns s c o
turned s c o turn is_turn is = turned_by s c o turn c.phase refl is_turn is

apart : (q id : ℕ) → (q == id) ≡ false → q ≡ id → ⊥
apart q id isnt same = true≢false (sym (eq-eqb q id same) ∙ isnt)

pumps_by : (s t : State) (id max : ℕ) (c : Connection) → fin.get s.connections id ≡ Some c → IsCarried s t (pumps id max) → StaysOrTurns s c (fin.get t.connections id)
pumps_by s t id max c got (inl is) = inl (ap (λ (x : State). fin.get x.connections id) is ∙ got)
pumps_by s t id max c got (inr (asked, is)) =
    turned s c (fin.get t.connections id) (pumped s.machine max) (λ w. inl (max, refl))
    (ap (λ (x : State). fin.get x.connections id) (is ∙ ap (λ (o : Option Connection). by_connection s o (λ x. with_connection s id (with_turn (pumped s.machine max) x))) got)
    ∙ put_there s.connections id (with_turn (pumped s.machine max) c))

ticks_by : (s t : State) (id ms : ℕ) (c : Connection) → fin.get s.connections id ≡ Some c → IsCarried s t (ticks ms) → StaysOrTurns s c (fin.get t.connections id)
ticks_by s t id ms c got (inl is) = inl (ap (λ (x : State). fin.get x.connections id) is ∙ got)
ticks_by s t id ms c got (inr (asked, is)) =
    turned s c (fin.get t.connections id) (ticked s.types ms) (λ w. inr (ms, refl))
    (ap (λ (x : State). fin.get x.connections id) is ∙ got_each (λ q x. with_turn (ticked s.types ms) x) s.connections id ∙ ap (option_map (with_turn (ticked s.types ms))) got)

pub stays_or_turns : (s t : State) (own : ClientConnection) (e : Event) (c : Connection) → is_by_peer_on (Some own) e ≡ false → fin.get s.connections own.id ≡ Some c → Steps s e t
    → StaysOrTurns s c (fin.get t.connections own.id)
stays_or_turns s t own (opens id) c isnt got steps = inl (others s t (happens (opens id)) own.id (apart own.id id isnt) steps ∙ got)
stays_or_turns s t own (comes id bytes) c isnt got steps = inl (others s t (happens (comes id bytes)) own.id (apart own.id id isnt) steps ∙ got)
stays_or_turns s t own (goes id) c isnt got steps = inl (others s t (happens (goes id)) own.id (apart own.id id isnt) steps ∙ got)
stays_or_turns s t own (compacts r) c isnt got steps = inl (others s t (happens (compacts r)) own.id tt steps ∙ got)
stays_or_turns s t own (retypes file) c isnt got steps = inl (others s t (happens (retypes file)) own.id tt steps ∙ got)
stays_or_turns s t own (ticks ms) c isnt got steps = ticks_by s t own.id ms c got (by_refusal s t (ticks ms) steps)
stays_or_turns s t own (pumps id max) c isnt got steps = go (own.id == id) refl
  where
    go : (b : Bool) → (own.id == id) ≡ b → StaysOrTurns s c (fin.get t.connections own.id)
    go false other = inl (others s t (happens (pumps id max)) own.id (apart own.id id other) steps ∙ got)
    go true same =
        let one : own.id ≡ id = eqb-true own.id id same in
        subst (λ (q : ℕ). StaysOrTurns s c (fin.get t.connections q)) (sym one)
        (pumps_by s t id max c (subst (λ (q : ℕ). fin.get s.connections q ≡ Some c) one got) (by_refusal s t (pumps id max) steps))
