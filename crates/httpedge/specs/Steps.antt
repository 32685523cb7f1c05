-- The hub: what each event makes of its machine and its connections.
use Rattle.std.specs.Prelude.{◌≡◌, ℕ, Bool, true, false, ◌&&◌, ◌==◌, nat_lt, nat_le, if◌then◌else◌, List, ◌++◌, Option, Some, None}
use Rattle.std.specs.declared.result.Result.{Result}
use Rattle.std.specs.declared.result.Result.TheVariants.{Ok, Err}
use Rattle.std.specs.List.{list_any}
use Rattle.std.specs.FinMap as fin
use Rattle.serde_json.specs.Data.{Data}
use Rattle.api_types.specs.TypesFile.{ServedShape}
use Rattle.history.specs.History.{History, compacted_to}
use Rattle.api_request.specs.Calls.{Answer, at_tick}
use Rattle.verbs.specs.Machine.{after}
use Rattle.verbs.specs.Retyping.{RetypeRefusal, retyped, retyping}
use Rattle.verbs.specs.Step.{planned}
use Rattle.requests.specs.Asks.{CallDecision}
use Rattle.httpedge.specs.Connections.{Connection, Connections, Phase, waiting, watching, ended, gone, new_connection, with_phase, with_written, with_taken, has_ended, is_known, is_new, is_open, open_count, max_open, each, waiting_on, watching_on}
use Rattle.requests.specs.Decision.{undecided, refused, accepted}
use Rattle.requests.specs.Refusals.{as_denied, too_many_connections}
use Rattle.requests.specs.Replies.{answer_bytes, refusal_reply}
use Rattle.requests.specs.ReplyBytes.{chunks}
use Rattle.httpedge.specs.Watches.{Watch, Turn, begun_at, is_due, pumped, ticked}
use Rattle.answers.specs.WatchFrom.{WatchFrom}

pub record State : Type 0 where
  pub types : List ServedShape
  pub machine : History
  -- the time of the last tick, in milliseconds after the start
  pub last_tick : ℕ
  pub connections : Connections

abbrev pub start : List ServedShape → History → State
start types m = record { types = types; machine = m; last_tick = 0; connections = fin.empty }

-- a connection opens; bytes come on it; its peer goes; a watch may write so many lines; so many milliseconds have passed since the start;
-- changes up to a revision may be forgotten; the types of a types file are served from here on
pub data Event : Type 0 where
  opens : ℕ → Event
  comes : ℕ → List ℕ → Event
  goes : ℕ → Event
  pumps : ℕ → ℕ → Event
  ticks : ℕ → Event
  compacts : ℕ → Event
  retypes : Data → Event

-- ---- why an event is refused

-- the id is not above all earlier ones; it is unknown; a pump of no lines; a tick that goes back; a compaction below the compacted number or
-- past the current one; why other types are refused. They stand in their order: of several causes the first counts
pub data Refusal : Type 0 where
  id_not_above : Refusal
  unknown_id : Refusal
  no_lines : Refusal
  tick_back : Refusal
  compaction_refused : Refusal
  types_refused : RetypeRefusal → Refusal

abbrev pub unless_known : Connections → ℕ → Option Refusal → Option Refusal
unless_known all id other = if is_known all id then other else Some unknown_id

abbrev pub unless_retyped : Result (List ServedShape) RetypeRefusal → Option Refusal
unless_retyped (Ok others) = None
unless_retyped (Err why) = Some (types_refused why)

abbrev pub refusal : State → Event → Option Refusal
refusal s (opens id) = if is_new s.connections id then None else Some id_not_above
refusal s (comes id bytes) = unless_known s.connections id None
refusal s (goes id) = unless_known s.connections id None
refusal s (pumps id max) = unless_known s.connections id (if max == 0 then Some no_lines else None)
refusal s (ticks ms) = if nat_lt ms s.last_tick then Some tick_back else None
refusal s (compacts c) = if nat_le s.machine.compacted c && nat_le c s.machine.current then None else Some compaction_refused
refusal s (retypes file) = unless_retyped (retyping s.types s.machine file)

-- ---- parts of a state

abbrev pub with_machine : State → History → State
with_machine s m = record s { machine = m }

abbrev pub with_connections : State → Connections → State
with_connections s all = record s { connections = all }

abbrev pub with_connection : State → ℕ → Connection → State
with_connection s id c = with_connections s (fin.insert s.connections id c)

-- by the connection of this id, if there is one
abbrev pub by_connection : State → Option Connection → (Connection → State) → State
by_connection s None f = s
by_connection s (Some c) f = f c

abbrev pub on_connection : State → ℕ → (Connection → State) → State
on_connection s id f = by_connection s (fin.get s.connections id) f

-- ---- an opening

-- a new connection; where as many are open as may be, it gets the reply that says so, and has ended
abbrev pub opening : Connections → Connection
opening all = if nat_le max_open (open_count all) then with_written new_connection (refusal_reply (as_denied too_many_connections)) ended else new_connection

-- ---- bytes that come

-- with its reply a connection has ended; a watch goes on from here
abbrev pub answer_phase : ℕ → Option WatchFrom → Phase
answer_phase last_tick None = ended
answer_phase last_tick (Some from) = watching (begun_at last_tick from)

abbrev pub answered : ℕ → Connection → Answer → Connection
answered last_tick c a = with_written c (answer_bytes a a.watch) (answer_phase last_tick a.watch)

-- by what all the bytes of a connection ask it waits for more, or gets its reply and has ended, or watches
abbrev pub connection_after : List ServedShape → History → ℕ → Connection → List ℕ → CallDecision → Connection
connection_after types m last_tick c bytes undecided = with_phase c (waiting bytes)
connection_after types m last_tick c bytes (refused d) = with_written c (refusal_reply d) ended
connection_after types m last_tick c bytes (accepted call) = answered last_tick c (planned types m (at_tick last_tick call)).answer

-- a call makes its changes, at the time of the last tick
abbrev pub machine_after : List ServedShape → History → ℕ → CallDecision → History
machine_after types m last_tick undecided = m
machine_after types m last_tick (refused d) = m
machine_after types m last_tick (accepted call) = after m (planned types m (at_tick last_tick call)).changes

abbrev pub received : State → ℕ → Connection → List ℕ → CallDecision → State
received s id c bytes decision =
    with_connection (with_machine s (machine_after s.types s.machine s.last_tick decision)) id (connection_after s.types s.machine s.last_tick c bytes decision)

-- only a connection that waits receives bytes
abbrev pub received_by : State → ℕ → Connection → Phase → List ℕ → CallDecision → State
received_by s id c (waiting prefix) bytes decision = received s id c (prefix ++ bytes) decision
received_by s id c _ bytes decision = s

-- ---- watches

abbrev pub phase_after : Option Watch → Phase
phase_after None = ended
phase_after (Some w) = watching w

abbrev pub has_no_next : Option Watch → Bool
has_no_next None = true
has_no_next (Some w) = false

-- each line is a chunk; the last chunk comes where the watch has ended
abbrev pub turn_bytes : Turn → List ℕ
turn_bytes t = chunks t.lines (has_no_next t.next)

-- a watch at its turn; any other connection stays as it is
abbrev pub after_turn : (Watch → Turn) → Connection → Phase → Connection
after_turn turn c (watching w) = with_written c (turn_bytes (turn w)) (phase_after (turn w).next)
after_turn turn c _ = c

abbrev pub with_turn : (Watch → Turn) → Connection → Connection
with_turn turn c = after_turn turn c c.phase

-- ---- other types

-- each connection stays; what waits is decided by the types that are served then
abbrev pub with_types : State → Result (List ServedShape) RetypeRefusal → State
with_types s (Ok others) = record s { types = others; machine = retyped s.types others s.machine }
with_types s (Err why) = s

-- ---- one event

abbrev pub with_tick : State → ℕ → Connections → State
with_tick s ms all = record s { last_tick = ms; connections = all }

-- the state after an event that is not refused: the decision is what the bytes of its connection ask
abbrev pub applied_event : State → Event → CallDecision → State
applied_event s (opens id) decision = with_connection s id (opening s.connections)
applied_event s (comes id bytes) decision = on_connection s id (λ c. received_by s id c c.phase bytes decision)
applied_event s (goes id) decision = on_connection s id (λ c. with_connection s id (with_phase c (gone (has_ended c.phase))))
applied_event s (pumps id max) decision = on_connection s id (λ c. with_connection s id (with_turn (pumped s.machine max) c))
applied_event s (ticks ms) decision = with_tick s ms (each (λ id c. with_turn (ticked s.types ms) c) s.connections)
-- no change is lost: the compacted number alone is another
applied_event s (compacts c) decision = with_machine s (compacted_to c s.machine)
applied_event s (retypes file) decision = with_types s (retyping s.types s.machine file)

abbrev pub unless_refused : Option Refusal → State → State → State
unless_refused None s t = t
unless_refused (Some why) s t = s

-- a refused event changes nothing
abbrev pub stepped : State → Event → CallDecision → State
stepped s e decision = unless_refused (refusal s e) s (applied_event s e decision)

-- ---- out of memory

-- an open connection dies: no further byte is written on it, and what was written stays until it is taken
abbrev pub killed : Connection → Connection
killed c = if is_open c.phase then with_phase c ended else c

-- it watches, and its turn at this tick writes something
abbrev pub writes_at : ℕ → Phase → Bool
writes_at ms (watching w) = is_due ms w
writes_at ms _ = false

-- a watch that found no room for what it writes is dead; every other connection has its turn: one to which nothing is due needs no room
abbrev pub killed_or_ticked : List ServedShape → ℕ → Bool → Connection → Connection
killed_or_ticked types ms ran_out c = if ran_out && writes_at ms c.phase then killed c else with_turn (ticked types ms) c

-- the state after an event that takes memory (`takes_memory`) and found none; at a tick it is these connections that found none
abbrev pub out_of_memory : State → Event → (ℕ → Bool) → State
out_of_memory s (opens id) ran_out_on = s
out_of_memory s (comes id bytes) ran_out_on = on_connection s id (λ c. with_connection s id (killed c))
out_of_memory s (goes id) ran_out_on = s
out_of_memory s (pumps id max) ran_out_on = on_connection s id (λ c. with_connection s id (killed c))
out_of_memory s (ticks ms) ran_out_on = with_tick s ms (each (λ id c. killed_or_ticked s.types ms (ran_out_on id) c) s.connections)
out_of_memory s (compacts c) ran_out_on = s
out_of_memory s (retypes file) ran_out_on = s

-- which events take memory: bytes only where the connection waits for them, a pump only where it watches, a tick only where a watch found none
-- whose turn writes something
abbrev pub takes_memory : State → Event → (ℕ → Bool) → Bool
takes_memory s (opens id) ran_out_on = true
takes_memory s (comes id bytes) ran_out_on = waiting_on s.connections id
takes_memory s (goes id) ran_out_on = false
takes_memory s (pumps id max) ran_out_on = watching_on s.connections id
takes_memory s (ticks ms) ran_out_on = list_any (λ e. ran_out_on e.0 && writes_at ms e.1.phase) (fin.entries s.connections)
takes_memory s (compacts c) ran_out_on = true
takes_memory s (retypes file) ran_out_on = true

-- why an event is refused that takes no memory before: types are read first, whatever then becomes of them
abbrev pub early_refusal : State → Event → Option Refusal
early_refusal s (retypes file) = None
early_refusal s e = refusal s e

-- an event that is not refused before finds no memory, and leads to this state
abbrev pub RunsOutOfMemory : State → Event → (ℕ → Bool) → State → Type 0
RunsOutOfMemory s e ran_out_on t = (early_refusal s e ≡ None) × (takes_memory s e ran_out_on ≡ true) × (t ≡ out_of_memory s e ran_out_on)

-- ---- bytes that are taken

-- the next n bytes that were written on a connection are taken, at most all
abbrev pub with_bytes_taken : State → ℕ → ℕ → State
with_bytes_taken s id n = on_connection s id (λ c. with_connection s id (with_taken c n))
