-- What an event did, from one state to the next: what it wrote on each connection, whether it ended, and which request was answered.
use Rattle.std.specs.Prelude.{◌≡◌, ℕ, Bool, false, not, ◌&&◌, ◌||◌, nat_le, nat_lt, if◌then◌else◌, List, [], ◌∷◌, drop, length, map, Option, Some, None, option_map, unwrap_or}
use Rattle.std.specs.BTreeMap.{is_at}
use Rattle.std.specs.FinMap as fin
use Rattle.std.specs.List.Sorted.{IsStrictlySortedBy}
use Rattle.std.specs.Map.{lookup}
use Rattle.std.specs.Ordering.{nat_cmp, eq_by_cmp}
use Rattle.api_types.specs.TypesFile.{ServedShape}
use Rattle.api_request.specs.Calls.{at_tick}
use Rattle.api_request.specs.Reasons.{code_of}
use Rattle.history.specs.History.{History}
use Rattle.verbs.specs.Step.{planned}
use Rattle.requests.specs.Asks.{CallDecision}
use Rattle.requests.specs.Decision.{undecided, refused, accepted}
use Rattle.requests.specs.Refusals.{as_denied, too_many_connections}
use Rattle.requests.specs.declared.request.Request.{Request}
use Rattle.requests.specs.ReadBufferViews.{request_bytes}
use Rattle.httpedge.specs.declared.effect.Change.{Change}
use Rattle.httpedge.specs.declared.effect.Done.{Done}
use Rattle.httpedge.specs.declared.effect.Effect.{Effect}
use Rattle.httpedge.specs.declared.effect.Effect.TheVariants as effect
use Rattle.httpedge.specs.Connections.{Connection, Connections, Phase, watching, max_open, open_count, has_ended, ended_on, written_on}
use Rattle.httpedge.specs.Runs.{AsksIf, bytes_at}
use Rattle.httpedge.specs.Steps.{Event, State, opens, comes, pumps, ticks, stepped}
use Rattle.httpedge.specs.Watches.{Turn, Watch, pumped, ticked}

-- ---- from one state to another

-- what was written on a connection: what stands behind what stood
abbrev pub added_on : State → State → ℕ → List ℕ
added_on s t id = drop (length (written_on s.connections id)) (written_on t.connections id)

abbrev pub has_just_ended : State → State → ℕ → Bool
has_just_ended s t id = ended_on t.connections id && not (ended_on s.connections id)

-- ---- what an event says

-- how many lines a watch writes at its turn; any other connection writes none
abbrev pub lines_by : (Watch → Turn) → Phase → ℕ
lines_by turn (watching w) = length (turn w).lines
lines_by turn _ = 0

abbrev pub lines_on : (Watch → Turn) → Connections → ℕ → ℕ
lines_on turn all id = unwrap_or (option_map (λ c. lines_by turn c.phase) (fin.get all id)) 0

-- how many lines of a watch the event writes on a connection
abbrev pub lines_at : State → Event → ℕ → ℕ
lines_at s (pumps id max) q = if eq_by_cmp nat_cmp id q then lines_on (pumped s.machine max) s.connections q else 0
lines_at s (ticks ms) q = lines_on (ticked s.types ms) s.connections q
lines_at s _ q = 0

-- the status of what is answered, if something is
abbrev pub decided_status : List ServedShape → History → ℕ → CallDecision → Option ℕ
decided_status types m last_tick undecided = None
decided_status types m last_tick (refused d) = Some (code_of d.reason)
decided_status types m last_tick (accepted call) = Some (planned types m (at_tick last_tick call)).answer.status

-- past the limit an opening is refused
abbrev pub opening_status : Connections → Option ℕ
opening_status all = if nat_le max_open (open_count all) then Some (code_of (as_denied too_many_connections).reason) else None

-- the status of what the event answers on a connection: the decision is what the bytes ask
abbrev pub status_at : State → Event → CallDecision → ℕ → Option ℕ
status_at s (opens id) decision q = if eq_by_cmp nat_cmp id q then opening_status s.connections else None
status_at s (comes id bytes) decision q = if eq_by_cmp nat_cmp id q then decided_status s.types s.machine s.last_tick decision else None
status_at s _ decision q = None

-- the bytes of the request that is answered: all those of the connection, once they decide what it asks
abbrev pub answered_bytes : CallDecision → Option (List ℕ) → Option (List ℕ)
answered_bytes undecided bytes = None
answered_bytes (refused d) bytes = bytes
answered_bytes (accepted call) bytes = bytes

-- ---- what it did

-- to a connection
abbrev pub change_at : State → Event → CallDecision → State → ℕ → Change
change_at s e decision t id = record {
  bytes = length (added_on s t id);
  lines = lines_at s e id;
  status = status_at s e decision id;
  has_ended = has_just_ended s t id;
}

abbrev pub no_change : Change
no_change = record { bytes = 0; lines = 0; status = None; has_ended = false }

-- some bytes were written, or it ended
abbrev pub says_something : Change → Bool
says_something change = nat_lt 0 change.bytes || change.has_ended

abbrev pub tells : ℕ × Change → Bool
tells entry = says_something entry.1

abbrev pub if_something : Change → Option Change
if_something change = if says_something change then Some change else None

abbrev pub changes_in : Effect → List (ℕ × Change)
changes_in effect.Nothing = []
changes_in (effect.Connection entry) = entry ∷ []
changes_in (effect.Answer entry request) = entry ∷ []
changes_in (effect.Connections entries) = entries.items

abbrev pub request_in : Effect → Option (List ℕ)
request_in (effect.Answer entry request) = Some (request_bytes request)
request_in _ = None

abbrev pub ids_in : List (ℕ × Change) → List ℕ
ids_in entries = map (λ entry. entry.0) entries

abbrev pub change_in : List (ℕ × Change) → ℕ → Option Change
change_in entries id = lookup (is_at (nat_cmp id)) entries

-- the effect is what the event did from one state to the other: it names each connection on which some bytes were written or that ended,
-- and no other, by ids that rise; and it has the request that was answered
pub record IsEffect (s : State) (e : Event) (decision : CallDecision) (t : State) (x : Effect) : Type 0 where
  pub rises : IsStrictlySortedBy nat_cmp (ids_in (changes_in x))
  pub says : (id : ℕ) → change_in (changes_in x) id ≡ if_something (change_at s e decision t id)
  pub answers : request_in x ≡ answered_bytes decision (bytes_at s e)

-- the event leads to this state, and the effect is what it did
abbrev pub Does : State → Event → State → Effect → Type 0
Does s e t x = (decision : CallDecision) × AsksIf s (bytes_at s e) decision × (t ≡ stepped s e decision) × IsEffect s e decision t x

-- ---- words of private clauses

-- from one connection to another, or from none
abbrev pub written_of : Option Connection → List ℕ
written_of o = unwrap_or (option_map (λ c. c.written) o) []

abbrev pub ended_of : Option Connection → Bool
ended_of o = unwrap_or (option_map (λ c. has_ended c.phase) o) false

-- the change from one connection to another, or from none, of so many lines and with this status
abbrev pub change_between : Option Connection → Option Connection → ℕ → Option ℕ → Change
change_between o p lines status = record {
  bytes = length (drop (length (written_of o)) (written_of p));
  lines = lines;
  status = status;
  has_ended = ended_of p && not (ended_of o);
}

-- the change by these bytes: lines of a watch, or an answer
abbrev pub lines_change : List ℕ → ℕ → Bool → Change
lines_change bytes lines has_ended = record { bytes = length bytes; lines = lines; status = None; has_ended = has_ended }

abbrev pub answer_change : List ℕ → ℕ → Bool → Change
answer_change bytes status has_ended = record { bytes = length bytes; lines = 0; status = Some status; has_ended = has_ended }

-- what was done to one connection where no request was answered
abbrev pub unasked : Change → Done
unasked change = record { change = change; request = None }

abbrev pub asked_in : Done → Option (List ℕ)
asked_in done = option_map request_bytes done.request

-- an effect of one connection
abbrev pub effect_by : ℕ × Change → Option Request → Effect
effect_by entry (Some request) = effect.Answer entry request
effect_by entry None = if tells entry then effect.Connection entry else effect.Nothing

abbrev pub effect_on : ℕ → Done → Effect
effect_on id done = effect_by (id, done.change) done.request
