-- What happens next for a client to come to the machine's current revision: a function of the world, so the whole schedule can be computed.
use Rattle.std.specs.Prelude.{◌≡◌, ℕ, suc, ◌==◌, Bool, true, false, nat_lt, not, if◌then◌else◌, List, [], ◌∷◌, ◌++◌, length, Option, Some, None, option_map, unwrap_or}
use Rattle.std.specs.FinMap as fin
use Rattle.watchline.specs.Watches.{is_bookmark_due}
use Rattle.httpedge.specs.Connections.{Phase, waiting, watching, ended, gone}
use Rattle.httpedge.specs.Steps.{pumps, ticks}
use Rattle.reflector.specs.Client.{Cache, SyncPhase, first, streaming, next}
use Rattle.world_laws.specs.Reports.{Report, reports_after}
use Rattle.world_laws.specs.Tasks.{Task}
use Rattle.world_laws.specs.World.{ClientConnection, Steps, World, WorldEvent, cut, other, reply_on, send, to_client, to_server}

-- ---- where it is to come

-- what the client keeps, if it keeps anything, is of this revision
abbrev pub is_at : ℕ → Option Cache → Bool
is_at revision None = false
is_at revision (Some now) = now.revision == revision

-- the client has the revision that the machine has
abbrev pub is_current : World → Bool
is_current w = is_at w.hub.machine.current w.client.cache

-- ---- the next move

-- of a watch, from which all has come, more is written: while changes are left the lines of all of them, then the bookmark that is due, while the clock stands
-- still. Where no more comes of the connection it is cut
abbrev pub wait_by : World → ℕ → Phase → WorldEvent
wait_by w id (watching watch) =
    if nat_lt watch.cursor.position w.hub.machine.current then other (pumps id w.hub.machine.current)
    else if is_bookmark_due watch.cursor then other (ticks w.hub.last_tick)
    else cut
wait_by w id (waiting bytes) = cut
wait_by w id ended = cut
wait_by w id (gone had_ended) = cut

-- the same by the id; an unknown one has no more to come
abbrev pub wait_on : World → ClientConnection → WorldEvent
wait_on w own = unwrap_or (option_map (λ c. wait_by w own.id c.phase) (fin.get w.hub.connections own.id)) cut

-- on the client's connection all that is written of the reply comes to it; else all of its request that is left goes to the server
abbrev pub move_on : World → ClientConnection → WorldEvent
move_on w own =
    if nat_lt own.handed (length (reply_on w own)) then to_client (length (reply_on w own))
    else if nat_lt 0 (length own.unsent) then to_server (length own.unsent)
    else wait_on w own

-- a list of another revision than the machine has
abbrev pub is_old : ℕ → SyncPhase → Bool
is_old current first = false
is_old current (next revision token paged) = not (revision == current)
is_old current streaming = false

-- a client that awaits no reply asks what is due. In the middle of a list of a revision that is past it is cut, so that it begins anew with the first page
abbrev pub move_by : World → Bool → Option ClientConnection → WorldEvent
move_by w false own = send
move_by w true None = send
move_by w true (Some own) = if is_old w.hub.machine.current w.client.sync then cut else move_on w own

-- the next move, until the client is where the machine is
abbrev pub next_move : World → Option WorldEvent
next_move w = if is_current w then None else Some (move_by w w.client.is_awaiting_reply w.connection)

-- ---- the schedule

-- these events, numbered from i on, lead from one world to another with these reports, each the next move of the world where it happens
abbrev pub Pursues : Task → ℕ → World → List WorldEvent → World → List Report → Type 0
Pursues task i w [] v reports = (v ≡ w) × (reports ≡ [])
Pursues task i w (e ∷ es) v reports =
    (mid : World) × (others : List Report) × (next_move w ≡ Some e) × Steps task w e mid × Pursues task (suc i) mid es v others × (reports ≡ reports_after i w mid ++ others)
