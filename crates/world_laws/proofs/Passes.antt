-- What the joined run asks of its parts: the calls that the client's requests ask, what answers them, and the turns of the client's watch.
use Rattle.std.specs.Prelude.{◌≡◌, ◌⊎◌, ℕ, ◌≤◌, true, List, ◌∷◌, ◌++◌, map, codes, Option, Some, None, ⊤}
use Rattle.std.specs.List.{All}
use Rattle.api_types.specs.TypesFile.{ServedShape}
use Rattle.history.specs.History.{History}
use Rattle.params.specs.Values.{Values, no_values}
use Rattle.params.specs.Values as params
use Rattle.answers.specs.WatchFrom.{WatchFrom}
use Rattle.watchline.specs.Watches.{no_initial_left}
use Rattle.answers.specs.declared.watch_from.InitialEvents.TheVariants.{Changes}
use Rattle.api_request.specs.Calls.{Call}
use Rattle.verbs.specs.Step.{planned}
use Rattle.requests.specs.Asks.{Asks}
use Rattle.requests.specs.Decision.{accepted}
use Rattle.requests.specs.Refusals.{head_too_large, refuse}
use Rattle.requests.specs.Replies.{answer_reply}
use Rattle.httpedge.specs.Steps as edge
use Rattle.httpedge.specs.Watches.{Turn, Watch}
use Rattle.reflector.specs.FollowsLaws.{IsWatchReply}
use Rattle.reflector.specs.Requests.{path_of}
use Rattle.wireclient.specs.LineLaws.{HasNoFeed, with_feed}
use Rattle.wireclient.specs.Reads.{Items}
use Rattle.wireclient.specs.Reply.{ReplyItem}
use Rattle.wireclient.specs.Request.{request}
use Rattle.wire_laws.specs.Listings.{IsWatching}
use Rattle.wire_laws.specs.Watched.{end_sent, lines_sent}
use Rattle.world_laws.proofs.Mirror.{server_of}
pub use Rattle.world_laws.specs.ListCalls.{IsListCall, IsNextCall}
use Rattle.world_laws.specs.Tasks.{Task, wanted_by}

-- ---- what a request asks

-- the bytes of the client's request with this query
abbrev pub request_with : Task → List ℕ → List ℕ
request_with task query = request (codes "GET") (path_of (wanted_by task) ++ 63 ∷ query) None

-- the bytes ask such a call, or their head is too long for the server
abbrev pub AsksFor : List ServedShape → List ℕ → (Call → Type 0) → Type 0
AsksFor types bytes IsSuch = Asks types bytes (refuse head_too_large) ⊎ ((call : Call) × Asks types bytes (accepted call) × IsSuch call)

-- what the client's watch asks: bookmarks, and no end
abbrev pub task_watch : params.Watch
task_watch = record { has_bookmarks = true; timeout = 0 }

abbrev pub watch_values : Task → ℕ → Values
watch_values task r = record no_values { version = Some r; selector = task.requirements; watch = Some task_watch }

-- the call asks for a watch of the task's list from the revision on
abbrev pub IsWatchCall : List ServedShape → Task → ℕ → Call → Type 0
IsWatchCall types task r call = IsWatching types call task.t task.settings.kind task.settings.namespace (watch_values task r) task_watch r

-- ---- what answers it

abbrev pub watch_from : Task → ℕ → WatchFrom
watch_from task r =
    record { kind = task.settings.kind; namespace = task.settings.namespace; requirements = task.requirements; position = r; initial = Changes; bookmarks = true; timeout = 0 }

-- the answer opens the watch
pub record WatchOpens (types : List ServedShape) (task : Task) (machine : History) (r : ℕ) (call : Call) : Type 0 where
  pub status : (planned types machine call).answer.status ≡ 200
  pub watch : (planned types machine call).answer.watch ≡ Some (watch_from task r)

-- the answer opens none, and its items are no reason to go on
pub record WatchRefused (types : List ServedShape) (task : Task) (machine : History) (r : ℕ) (call : Call) : Type 0 where
  pub unwatched : (planned types machine call).answer.watch ≡ None
  pub items : List ReplyItem
  pub to : ℕ
  pub read : Items (answer_reply (planned types machine call).answer) items
  pub watches : IsWatchReply (server_of task machine) (wanted_by task) r items to

-- ---- turns of the watch

-- it is such a watch, and has told the objects that stood when it was opened
pub record IsTaskWatch (task : Task) (w : Watch) : Type 0 where
  pub kind : w.cursor.kind ≡ task.settings.kind
  pub namespace : w.cursor.namespace ≡ task.settings.namespace
  pub requirements : w.cursor.requirements ≡ task.requirements
  pub bookmarks : w.cursor.bookmarks ≡ true
  pub left : w.cursor.left ≡ no_initial_left
  pub endless : w.timeout ≡ 0

-- where it goes on it stands at this revision
abbrev pub GoesOnAt : Task → History → ℕ → Option Watch → Type 0
GoesOnAt task machine to None = ⊤
GoesOnAt task machine to (Some w) = IsTaskWatch task w × (w.cursor.position ≡ to) × (to ≤ machine.current)

-- what is told of its lines, and of its end, leads from the objects at p to those where it then stands
pub record TurnComes (task : Task) (machine : History) (p : ℕ) (turn : Turn) : Type 0 where
  pub texts : List (List ℕ)
  pub plain : All HasNoFeed texts
  pub lines : turn.lines ≡ map with_feed texts
  pub to : ℕ
  pub watches : IsWatchReply (server_of task machine) (wanted_by task) p (lines_sent texts (end_sent (edge.has_no_next turn.next))) to
  pub next : GoesOnAt task machine to turn.next
