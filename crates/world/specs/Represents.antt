-- What the code's world stands for.
use Rattle.std.specs.Prelude.{◌≡◌, ◌≤◌, ℕ, Bool, true, false, List, length, take, Option, Some, None, option_map, string_bytes, ⊤}
use Rattle.std.specs.FinMap as fin
use Rattle.httpedge.specs.Connections.{written_on}
use Rattle.httpedge.specs.Steps as edge
use Rattle.indexer.specs.Objects.{Stored}
use Rattle.decoder.specs.Wanted.{Wanted}
use Rattle.wireclient.specs.Reply.{ReplyItem}
use Rattle.reflector.specs.Client.{Client, Objects, kept, max_objects}
use Rattle.reflector.specs.InformerViews as informers
use Rattle.reflector.specs.ReplayLaws.{AllMatchTheirTexts, LeadFrom}
use Rattle.reflector.specs.Requests.{Settings}
use Rattle.reflector.specs.Run.{taken}
use Rattle.reflector.specs.declared.informer.Informer.{Informer}
use Rattle.summary.specs.Counts.{summed_of}
use Rattle.summary.specs.Summary.{summed}
use Rattle.world_laws.specs.Tasks.{Task, client_settings, wanted_by}
use Rattle.world_laws.specs.World.{ClientConnection, World}
use Rattle.world.specs.Extents.{NotesFollow}
use Rattle.world.specs.Views.{connection_seen, place_seen}
use Rattle.world.specs.Serving.{Serves}
use Rattle.world.specs.declared.world.World as worlds

-- the bytes that the client read, where it asks, are those that came to it
abbrev pub IsHanded : Bool → List ℕ → Option ClientConnection → edge.State → Type 0
IsHanded false bytes own s = ⊤
IsHanded true bytes None s = ⊥
IsHanded true bytes (Some own) s = (own.handed ≤ length (written_on s.connections own.id)) × (bytes ≡ take own.handed (written_on s.connections own.id))

abbrev pub ClientRepresents : {I : Type 0} → (I → Stored → List (List ℕ)) → Informer I → World → Type 0
ClientRepresents keys i w = (bytes : List ℕ) × (emitted : List ReplyItem) × informers.InformerRepresents keys i w.client bytes emitted × IsHanded w.client.is_awaiting_reply bytes w.connection w.hub

-- the waiting notices lead from these objects to those of now
pub record NoticesReach (wanted : Wanted) (o : Objects) (c : Client) : Type 0 where
  pub read : AllMatchTheirTexts wanted c
  pub lead : LeadFrom o c
  pub few : fin.len (kept c.cache) ≤ max_objects

-- o: the objects that are counted
pub record WorldRepresents {I : Type 0} (keys : I → Stored → List (List ℕ)) (task : Task) (o : Objects) (x : worlds.World I) (w : World) : Type 0 where
  pub hub : Serves x.server w.hub
  pub requested : x.requested.items ≡ w.requested
  pub connection : option_map connection_seen x.connection ≡ w.connection
  pub client : ClientRepresents keys x.client w
  pub wanted : informers.settings_in x.client ≡ client_settings task
  pub reaches : NoticesReach (wanted_by task) o w.client
  pub few : fin.len o ≤ max_objects
  pub counted : summed x.summary ≡ summed_of task.settings.label o
  pub label : string_bytes x.label ≡ task.settings.label
  pub place : place_seen x.place ≡ task.settings.summary

-- wherever the notes were begun of how far connections were, they go on from one world to the next
abbrev pub NotesLead : {I : Type 0} → worlds.World I → World → worlds.World I → World → Type 0
NotesLead x w y v = NotesFollow x.server.noted w.hub y.server.noted v.hub

-- how a client was made
pub record Setup (I : Type 0) : Type 0 where
  pub settings : Settings
  pub indexes : List I
  pub names : List (List ℕ)

abbrev pub setup_in : {I : Type 0} → Informer I → Setup I
setup_in i = record { settings = informers.settings_in i; indexes = informers.indexes_in i; names = informers.names_in i }

-- the client's notices are taken
abbrev pub settled : World → World
settled w = record w { client = taken w.client }
