-- A server and a client in one process, event by event. The hub serves the connections of all peers; one of them may be the client's,
-- whose request and reply move in pieces.
use Rattle.std.specs.Prelude.{◌≡◌, ℕ, ◌+◌, Bool, true, false, ◌&&◌, ◌==◌, nat_le, if◌then◌else◌, List, [], ◌∷◌, ◌++◌, length, map, take, drop, Option, Some, None}
use Rattle.std.specs.FinMap as fin
use Rattle.api_types.specs.TypesFile.{ServedShape}
use Rattle.history.specs.History as history
use Rattle.httpedge.specs.Connections.{ended_on, next_id, written_on}
use Rattle.httpedge.specs.Runs as runs
use Rattle.httpedge.specs.Steps as edge
use Rattle.decoder.specs.Wanted.{Wanted}
use Rattle.reflector.specs.Client.{Cache, Client, fresh}
use Rattle.reflector.specs.InformerViews.{due}
use Rattle.reflector.specs.Run.{asked, closed, receives_all, restarted, taken}
use Rattle.wireclient.specs.Reads.{Items}
use Rattle.wireclient.specs.Reply.{ReplyItem}
use Rattle.summary.specs.Apply.{apply_request}
use Rattle.summary.specs.Counts.{summed_of}
use Rattle.world_laws.specs.Tasks.{Task, client_settings, wanted_by}

-- the client's connection: the bytes of its request that the server hasn't got yet, and how many bytes of the reply the client has
pub record ClientConnection : Type 0 where
  pub id : ℕ
  pub unsent : List ℕ
  pub handed : ℕ

-- requested: the connections that were opened for a request of another peer, oldest first
pub record World : Type 0 where
  pub hub : edge.State
  pub requested : List ℕ
  pub client : Client
  pub connection : Option ClientConnection

-- the machine begins at revision 1
abbrev pub start : List ServedShape → World
start types = record { hub = edge.start types (history.fresh 1); requested = []; client = fresh; connection = None }

-- by its id, what was written on each connection that was ever opened
abbrev pub replies : World → List (ℕ × List ℕ)
replies w = map (λ e. (e.0, e.1.written)) (fin.entries w.hub.connections)

-- what happens: to the hub, to the client, or between them
pub data WorldEvent : Type 0 where
  -- an event of the hub: of another peer's connection, of a watch, of the clock, a compaction, or other types
  other : edge.Event → WorldEvent
  -- another peer's bytes come in one piece on a new connection
  request : List ℕ → WorldEvent
  -- the client asks what is due, on a new connection
  send : WorldEvent
  -- so many bytes of its request come to the server
  to_server : ℕ → WorldEvent
  -- so many bytes of the reply come to the client
  to_client : ℕ → WorldEvent
  -- the client's connection is cut
  cut : WorldEvent
  -- the client begins anew
  restart : WorldEvent
  -- the counts are applied
  reconcile : WorldEvent

-- ---- the hub

-- the hub takes an event; all else stays
abbrev pub HubTakes : World → edge.Event → World → Type 0
HubTakes w e v = (t : edge.State) × runs.Steps w.hub e t × (v ≡ record w { hub = t })

-- these bytes come in one piece on a new connection
abbrev pub ComesInOnePiece : World → ℕ → List ℕ → World → Type 0
ComesInOnePiece w id bytes v = (mid : World) × HubTakes w (edge.opens id) mid × HubTakes mid (edge.comes id bytes) v

-- ---- other peers

-- whether by the event another peer would open, use or leave the client's connection
abbrev pub is_by_peer_on : Option ClientConnection → edge.Event → Bool
is_by_peer_on None e = false
is_by_peer_on (Some own) (edge.opens id) = own.id == id
is_by_peer_on (Some own) (edge.comes id bytes) = own.id == id
is_by_peer_on (Some own) (edge.goes id) = own.id == id
is_by_peer_on (Some own) (edge.pumps id max) = false
is_by_peer_on (Some own) (edge.ticks ms) = false
is_by_peer_on (Some own) (edge.compacts c) = false
is_by_peer_on (Some own) (edge.retypes file) = false

-- the hub takes it unless it is on the client's connection, which no other peer uses
abbrev pub TakesUnless : Bool → World → edge.Event → World → Type 0
TakesUnless true w e v = v ≡ w
TakesUnless false w e v = HubTakes w e v

-- another peer's request; its connection is noted. With no id left nothing happens
abbrev pub Requests : World → Option ℕ → List ℕ → World → Type 0
Requests w None bytes v = v ≡ w
Requests w (Some id) bytes v = ComesInOnePiece (record w { requested = w.requested ++ id ∷ [] }) id bytes v

-- ---- the client's connection

-- the client leaves its connection, if it has one
abbrev pub Leaves : World → Option ClientConnection → World → Type 0
Leaves w None v = v ≡ w
Leaves w (Some own) v = HubTakes (record w { connection = None }) (edge.goes own.id) v

-- the client's connection is cut, if it has one
abbrev pub Cuts : World → Option ClientConnection → World → Type 0
Cuts w None v = v ≡ w
Cuts w (Some own) v = Leaves (record w { client = closed w.client }) (Some own) v

-- a request that is due goes out on a new connection, in place of the old one; with none due, or no id left, nothing happens
abbrev pub Sends : World → Option ℕ → Option (List ℕ) → World → Type 0
Sends w None bytes v = v ≡ w
Sends w (Some id) None v = v ≡ w
Sends w (Some id) (Some bytes) v =
    (alone : World) × (opened : World) × Leaves w w.connection alone × HubTakes alone (edge.opens id) opened
    × (v ≡ record opened { client = asked opened.client; connection = Some (record { id = id; unsent = bytes; handed = 0 }) })

-- all that was written on the connection
abbrev pub reply_on : World → ClientConnection → List ℕ
reply_on w own = written_on w.hub.connections own.id

-- the server has ended the connection, and the client has all that was written on it
abbrev pub is_over : World → ClientConnection → Bool
is_over w own = ended_on w.hub.connections own.id && nat_le (length (reply_on w own)) own.handed

-- the connection as bytes moved; where the reply is over the client is told that it is closed
abbrev pub after_move : World → ClientConnection → World
after_move w own = record w { connection = Some own; client = if is_over w own then closed w.client else w.client }

-- these bytes, the next n of the request, come to the server; with none nothing happens
abbrev pub Delivers : World → ClientConnection → ℕ → List ℕ → World → Type 0
Delivers w own n [] v = v ≡ w
Delivers w own n (b ∷ bs) v = (mid : World) × HubTakes w (edge.comes own.id (b ∷ bs)) mid × (v ≡ after_move mid (record own { unsent = drop n own.unsent }))

-- the next n bytes of the client's request come to the server, or all that are left
abbrev pub ToServer : World → ℕ → Option ClientConnection → World → Type 0
ToServer w n None v = v ≡ w
ToServer w n (Some own) v = Delivers w own n (take n own.unsent) v

-- what a piece of the reply says after the bytes before it; a client that asks nothing doesn't read it
abbrev pub Receives : Bool → Wanted → Client → List ℕ → List ℕ → Client → Type 0
Receives false wanted c before piece d = d ≡ c
Receives true wanted c before piece d = (sent : List ReplyItem) × (news : List ReplyItem) × Items before sent × Items (before ++ piece) (sent ++ news) × (d ≡ receives_all wanted c news)

-- this piece of the reply comes to the client; with none nothing happens
abbrev pub Hands : Wanted → World → ClientConnection → List ℕ → World → Type 0
Hands wanted w own [] v = v ≡ w
Hands wanted w own (b ∷ bs) v =
    (d : Client) × Receives w.client.is_awaiting_reply wanted w.client (take own.handed (reply_on w own)) (b ∷ bs) d
    × (v ≡ after_move (record w { client = d }) (record own { handed = own.handed + length (b ∷ bs) }))

-- the next n bytes of the reply come to the client, or all that are there
abbrev pub ToClient : Wanted → World → ℕ → Option ClientConnection → World → Type 0
ToClient wanted w n None v = v ≡ w
ToClient wanted w n (Some own) v = Hands wanted w own (take n (drop own.handed (reply_on w own))) v

-- ---- the summary

-- where a revision is reported, the counts of the client's objects are applied on a connection of their own
abbrev pub Reconciles : Task → World → Option Cache → Option ℕ → World → Type 0
Reconciles task w None id v = v ≡ w
Reconciles task w (Some now) None v = v ≡ w
Reconciles task w (Some now) (Some id) v = ComesInOnePiece w id (apply_request (summed_of task.settings.label now.objects) task.settings.summary.0 task.settings.summary.1) v

-- ---- an event

-- the event leads from one world to another, before the notices are taken
abbrev pub Happens : Task → World → WorldEvent → World → Type 0
Happens task w (other e) v = TakesUnless (is_by_peer_on w.connection e) w e v
Happens task w (request bytes) v = Requests w (next_id w.hub.connections) bytes v
Happens task w send v = Sends w (next_id w.hub.connections) (due (client_settings task) w.client) v
Happens task w (to_server n) v = ToServer w n w.connection v
Happens task w (to_client n) v = ToClient (wanted_by task) w n w.connection v
Happens task w cut v = Cuts w w.connection v
Happens task w restart v = Leaves (record w { client = restarted w.client }) w.connection v
Happens task w reconcile v = Reconciles task w w.client.cache (next_id w.hub.connections) v

-- the event happens, and then the summary takes the client's notices
abbrev pub Steps : Task → World → WorldEvent → World → Type 0
Steps task w e v = (mid : World) × Happens task w e mid × (v ≡ record mid { client = taken mid.client })
