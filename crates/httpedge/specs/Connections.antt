-- The connections of a hub (RFC 9112, section 9: one request on each, and the server closes it).
use Rattle.std.specs.Prelude.{◌≡◌, ℕ, ◌+◌, Bool, true, false, nat_lt, if◌then◌else◌, List, [], ◌∷◌, ◌++◌, length, map, drop, max, min, Option, Some, None, unwrap_or, option_map, ⊤}
use Rattle.std.specs.List.{filter, list_all}
use Rattle.std.specs.Ordering.{nat_cmp}
use Rattle.std.specs.FinMap as fin
use Rattle.httpedge.specs.Watches.{Watch}

-- what has become of a connection: these bytes came and what they ask is undecided; it watches; nothing more is written on it;
-- its peer has gone, and it had ended before that or not
pub data Phase : Type 0 where
  waiting : List ℕ → Phase
  watching : Watch → Phase
  ended : Phase
  gone : Bool → Phase

-- all that was written on it, how many bytes of that were taken, and how it stands
pub record Connection : Type 0 where
  pub written : List ℕ
  pub taken : ℕ
  pub phase : Phase

-- by their ids: each that was ever opened
abbrev pub Connections : Type 0
Connections = fin.FinMap nat_cmp Connection

-- ---- one connection

-- nothing came on it yet
abbrev pub new_connection : Connection
new_connection = record { written = []; taken = 0; phase = waiting [] }

abbrev pub with_phase : Connection → Phase → Connection
with_phase c phase = record c { phase = phase }

-- more is written on it, and then it stands so
abbrev pub with_written : Connection → List ℕ → Phase → Connection
with_written c bytes phase = record c { written = c.written ++ bytes; phase = phase }

-- ---- how it stands

-- an end stays when the peer goes
abbrev pub has_ended : Phase → Bool
has_ended ended = true
has_ended (gone had_ended) = had_ended
has_ended _ = false

-- it is open, and what its bytes ask is undecided
abbrev pub is_waiting : Phase → Bool
is_waiting (waiting bytes) = true
is_waiting _ = false

abbrev pub is_watching : Phase → Bool
is_watching (watching w) = true
is_watching _ = false

abbrev pub is_open : Phase → Bool
is_open (waiting bytes) = true
is_open (watching w) = true
is_open _ = false

abbrev pub has_gone : Phase → Bool
has_gone (gone had_ended) = true
has_gone _ = false

-- what was written and not taken; nothing where the peer has gone
abbrev pub untaken_in : Phase → List ℕ → List ℕ
untaken_in (gone had_ended) out = []
untaken_in _ out = out

abbrev pub out_of : Connection → List ℕ
out_of c = untaken_in c.phase (drop c.taken c.written)

-- the next n bytes of these are taken, at most all
abbrev pub with_taken : Connection → ℕ → Connection
with_taken c n = record c { taken = c.taken + min n (length (out_of c)) }

-- ---- all connections

abbrev pub is_known : Connections → ℕ → Bool
is_known all id = fin.contains_key all id

-- an id is new where it is above each that is known
abbrev pub is_new : Connections → ℕ → Bool
is_new all id = list_all (λ known. nat_lt known id) (fin.keys all)

-- the highest of these ids, or 0
abbrev pub highest : List ℕ → ℕ
highest [] = 0
highest (id ∷ ids) = max id (highest ids)

-- ids are numbers of 64 bits
abbrev pub id_after : ℕ → Option ℕ
id_after id = if nat_lt id 18446744073709551615 then Some (id + 1) else None

-- the id after all that are known, if one is left
abbrev pub next_id : Connections → Option ℕ
next_id all = id_after (highest (fin.keys all))

abbrev pub open_count : Connections → ℕ
open_count all = length (filter (λ c. is_open c.phase) (fin.values all))

-- how many may be open, by this server's own limit
abbrev pub max_open : ℕ
max_open = 1024

-- each connection by what becomes of it and its id
abbrev pub each : (ℕ → Connection → Connection) → Connections → Connections
each f all = fin.from_sorted (map (λ e. (e.0, f e.0 e.1)) (fin.entries all))

-- ---- what a caller sees: nothing is out on an unknown connection, and it has neither ended nor waits

abbrev pub out_on : Connections → ℕ → List ℕ
out_on all id = unwrap_or (option_map out_of (fin.get all id)) []

-- all that was written on a connection, taken or not
abbrev pub written_on : Connections → ℕ → List ℕ
written_on all id = unwrap_or (option_map (λ c. c.written) (fin.get all id)) []

abbrev pub ended_on : Connections → ℕ → Bool
ended_on all id = unwrap_or (option_map (λ c. has_ended c.phase) (fin.get all id)) false

abbrev pub open_on : Connections → ℕ → Bool
open_on all id = unwrap_or (option_map (λ c. is_open c.phase) (fin.get all id)) false

abbrev pub waiting_on : Connections → ℕ → Bool
waiting_on all id = unwrap_or (option_map (λ c. is_waiting c.phase) (fin.get all id)) false

abbrev pub watching_on : Connections → ℕ → Bool
watching_on all id = unwrap_or (option_map (λ c. is_watching c.phase) (fin.get all id)) false

abbrev pub gone_on : Connections → ℕ → Bool
gone_on all id = unwrap_or (option_map (λ c. has_gone c.phase) (fin.get all id)) false

-- ---- nothing was taken

abbrev pub IsUntaken : Option Connection → Type 0
IsUntaken None = ⊤
IsUntaken (Some c) = (c.taken ≡ 0) × (has_gone c.phase ≡ false)

-- nothing was taken of any connection, and no peer has gone
abbrev pub AllIsOut : Connections → Type 0
AllIsOut all = (id : ℕ) → IsUntaken (fin.get all id)
