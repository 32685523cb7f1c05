-- What one event adds to what a run shows.
use Rattle.std.specs.Prelude.{◌≡◌, ℕ, Bool, true, false, not, ◌&&◌, ◌==◌, List, [], ◌∷◌, length, map, take, drop, Option, Some, None, if◌then◌else◌, IfSome, is_none, option_and_then, option_map}
use Rattle.std.specs.FinMap as fin
use Rattle.std.specs.List.{filter, flat_map}
use Rattle.std.specs.Option.{option_to_list}
use Rattle.std.specs.Ordering.{eq_by_cmp, nat_cmp}
use Rattle.httpedge.specs.Connections.{ended_on, next_id, written_on}
use Rattle.httpedge.specs.Effects.{added_on, has_just_ended}
use Rattle.httpedge.specs.HubViews as hubs
use Rattle.httpedge.specs.Steps as edge
use Rattle.httpedge.specs.declared.fault.HubRefusal.{HubRefusal}
use Rattle.indexer.specs.Objects.{Stored}
use Rattle.reflector.specs.Client.{Cache}
use Rattle.reflector.specs.InformerViews.{due}
use Rattle.world_laws.specs.Reports.{reports_after}
use Rattle.world_laws.specs.Tasks.{Task, client_settings}
use Rattle.world_laws.specs.World.{ClientConnection, World, WorldEvent, is_by_peer_on, other, reply_on, request, send, to_server, to_client, cut, restart, reconcile}
use Rattle.world.specs.Recording.{ReportsFile}
use Rattle.world.specs.Views.{reply_seen}
use Rattle.world.specs.Shown.{AllShow}
use Rattle.world.specs.declared.refusal.Refusal as refusals
use Rattle.world.specs.declared.refusal.Refusal.TheVariants as refusal
use Rattle.world.specs.declared.step.Step.{Step}

-- ---- why an event can't happen

-- the hub refuses it; another peer would open, use or leave the client's connection; no id is left; the client has nothing to ask; no bytes
-- wait; the client has no connection; it has no revision
pub data Refusal : Type 0 where
  by_hub : edge.Refusal → Refusal
  client_connection : Refusal
  no_id : Refusal
  nothing_due : Refusal
  nothing_waits : Refusal
  no_connection : Refusal
  no_revision : Refusal

abbrev pub unless_by_peer : Bool → Option Refusal → Option Refusal
unless_by_peer true why = Some client_connection
unless_by_peer false why = why

abbrev pub unless_no_id : Option ℕ → Option Refusal → Option Refusal
unless_no_id None why = Some no_id
unless_no_id (Some id) why = why

abbrev pub if_due : Option (List ℕ) → Option Refusal
if_due None = Some nothing_due
if_due (Some bytes) = None

-- these bytes are carried
abbrev pub if_some : List ℕ → Option Refusal
if_some [] = Some nothing_waits
if_some (b ∷ bs) = None

-- the bytes that these are of the client's connection, if it has one
abbrev pub if_carried : (ClientConnection → List ℕ) → Option ClientConnection → Option Refusal
if_carried bytes None = Some nothing_waits
if_carried bytes (Some own) = if_some (bytes own)

abbrev pub if_connected : Option ClientConnection → Option Refusal
if_connected None = Some no_connection
if_connected (Some own) = None

abbrev pub if_synced : Option Cache → Option Refusal → Option Refusal
if_synced None why = Some no_revision
if_synced (Some now) why = why

-- why the event can't happen: of several causes the first
abbrev pub refusal_of : Task → World → WorldEvent → Option Refusal
refusal_of task w (other e) = unless_by_peer (is_by_peer_on w.connection e) (option_map by_hub (edge.refusal w.hub e))
refusal_of task w (request bytes) = unless_no_id (next_id w.hub.connections) None
refusal_of task w send = unless_no_id (next_id w.hub.connections) (if_due (due (client_settings task) w.client))
refusal_of task w (to_server n) = if_carried (λ own. take n own.unsent) w.connection
refusal_of task w (to_client n) = if_carried (λ own. take n (drop own.handed (reply_on w own))) w.connection
refusal_of task w cut = if_connected w.connection
refusal_of task w restart = None
refusal_of task w reconcile = if_synced w.client.cache (unless_no_id (next_id w.hub.connections) None)

-- as the code tells it
abbrev pub refusal_seen : refusals.Refusal → Refusal
refusal_seen (refusal.Hub why) = by_hub (hubs.refusal_of why)
refusal_seen refusal.ClientConnection = client_connection
refusal_seen refusal.NoId = no_id
refusal_seen refusal.NothingDue = nothing_due
refusal_seen refusal.NothingWaits = nothing_waits
refusal_seen refusal.NoConnection = no_connection
refusal_seen refusal.NoRevision = no_revision

-- it tells whether the event can happen, and why not
abbrev pub Refuses : Option refusals.Refusal → Option Refusal → Type 0
Refuses r why = option_map refusal_seen r ≡ why

-- the event, where it is the hub's
abbrev pub hub_event : WorldEvent → Option edge.Event
hub_event (other e) = Some e
hub_event _ = None

-- the hub's refusal, if it is one
abbrev pub hub_refusal : refusals.Refusal → Option HubRefusal
hub_refusal (refusal.Hub why) = Some why
hub_refusal _ = None

-- where other types are refused as no types file, the fault that is told is the file's own
abbrev pub TellsFault : WorldEvent → Option refusals.Refusal → Type 0
TellsFault e r = IfSome (hub_event e) (λ h. ReportsFile h (option_and_then hub_refusal r))

-- ---- the connection that it opens by itself

-- whether it opens a connection for a request of its own
abbrev pub opens_own : WorldEvent → Bool
opens_own (request bytes) = true
opens_own send = true
opens_own reconcile = true
opens_own _ = false

abbrev pub opened_by : Task → World → WorldEvent → Option ℕ
opened_by task w e = if opens_own e && is_none (refusal_of task w e) then next_id w.hub.connections else None

-- ---- what is written

-- how far a connection is: how many bytes were written on it, and whether it has ended
abbrev pub extent_of : edge.State → ℕ → ℕ × Bool
extent_of s id = (length (written_on s.connections id), ended_on s.connections id)

abbrev pub is_some_bytes : ℕ × List ℕ → Bool
is_some_bytes e = not (length e.1 == 0)

-- by its id, what was written on each connection on which something was
abbrev pub added : edge.State → edge.State → List (ℕ × List ℕ)
added s t = filter is_some_bytes (map (λ id. (id, added_on s t id)) (fin.keys t.connections))

-- what these say of one connection, joined
abbrev pub joined_on : ℕ → List (ℕ × List ℕ) → List ℕ
joined_on id es = flat_map (λ e. if eq_by_cmp nat_cmp id e.0 then e.1 else []) es

-- the connections that ended
abbrev pub ended_since : edge.State → edge.State → List ℕ
ended_since s t = filter (has_just_ended s t) (fin.keys t.connections)

-- ---- all of it

-- what the event of this number added, which led from one world to another
pub record ShowsStep {I : Type 0} (keys : I → Stored → List (List ℕ)) (indexes : List I) (names : List (List ℕ)) (task : Task) (number : ℕ) (w : World) (e : WorldEvent) (v : World) (x : Step) : Type 0 where
  pub refused : Refuses x.refused (refusal_of task w e)
  pub fault : TellsFault e x.refused
  pub opened : x.opened ≡ opened_by task w e
  pub written : map reply_seen x.written.items ≡ added w.hub v.hub
  pub ended : x.ended.items ≡ ended_since w.hub v.hub
  pub report : AllShow keys indexes names task.settings.label (option_to_list x.report) (reports_after number w v)
