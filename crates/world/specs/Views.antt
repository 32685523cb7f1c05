-- What the crate's values say, without where they lie in memory.
use Rattle.std.specs.Prelude.{◌≡◌, ℕ, List, drop, option_map, String, Vec, string_bytes}
use Rattle.std.specs.declared.alloc.Global.{Global}
use Rattle.indexer.specs.Objects.{Place}
use Rattle.httpedge.specs.HubViews.{event_of}
use Rattle.api_types.specs.TypesFile.{ServedShape}
use Rattle.decoder.specs.declared.wanted.Source as sources
use Rattle.world_laws.specs.Tasks.{RunSettings}
use Rattle.world_laws.specs.World.{ClientConnection, WorldEvent, other, request, send, to_server, to_client, cut, restart, reconcile}
use Rattle.world.specs.declared.connection.ClientConnection as connections
use Rattle.world.specs.declared.event.WorldEvent as events
use Rattle.world.specs.declared.event.WorldEvent.TheVariants as event
use Rattle.world.specs.declared.settings.Settings as settings

abbrev pub event_seen : events.WorldEvent → WorldEvent
event_seen (event.Other e) = other (event_of e)
event_seen (event.Request bytes) = request bytes.items
event_seen event.ClientSend = send
event_seen (event.ToServer n) = to_server n
event_seen (event.ToClient n) = to_client n
event_seen event.Cut = cut
event_seen event.Restart = restart
event_seen event.Reconcile = reconcile

abbrev pub connection_seen : connections.ClientConnection → ClientConnection
connection_seen c = record { id = c.id; unsent = drop c.sent c.request.items; handed = c.handed }

-- an id, and what was written on its connection
abbrev pub reply_seen : ℕ × Vec ℕ Global → ℕ × List ℕ
reply_seen e = (e.0, e.1.items)

-- a namespace and a name
abbrev pub place_seen : String Global × String Global → Place
place_seen p = (string_bytes p.0, string_bytes p.1)

abbrev pub settings_seen : settings.Settings → RunSettings
settings_seen s = record { kind = s.kind; namespace = option_map string_bytes s.namespace; selector = string_bytes s.selector; page = s.page; label = string_bytes s.label; summary = place_seen s.summary }

-- a type's names, as a client has them
pub record IsSourceOf (t : ServedShape) (s : sources.Source) : Type 0 where
  pub group : string_bytes s.group ≡ t.group
  pub version : string_bytes s.version ≡ t.version
  pub kind : string_bytes s.kind ≡ t.kind
  pub plural : string_bytes s.plural ≡ t.plural
