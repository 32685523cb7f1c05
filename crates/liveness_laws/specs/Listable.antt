-- What a list needs to come whole, page by page. Each of it can be had, and without it, as far as events lead there, there is a list that never comes.
use Rattle.std.specs.Prelude.{ℕ, ◌+◌, ◌*◌, ◌<◌, ◌≤◌, List, ◌∷◌, ◌++◌, length, Option, Some, None, codes}
use Rattle.std.specs.FinMap as fin
use Rattle.std.specs.List.{AllByRecursion}
use Rattle.history.specs.History.{History, Key, Objects, state_at}
use Rattle.history.specs.Seen.{SeenPage, seen_page}
use Rattle.lists.specs.Body.{Collection, continued_at, list_text}
use Rattle.lists.specs.Lists.{page_limit}
use Rattle.verbs.specs.Machine.{AreUnicode}
use Rattle.verbs.specs.Step.{collection_of}
use Rattle.wire.specs.Heads.{max_head}
use Rattle.httpedge.specs.Connections.{Connections, highest, max_open, open_count}
use Rattle.wireclient.specs.Reads.{max_body}
use Rattle.wireclient.specs.Request.{request}
use Rattle.reflector.specs.Client.{max_objects}
use Rattle.reflector.specs.Requests.{list_query, path_of, watch_query}
use Rattle.world_laws.specs.Tasks.{Task, client_settings, selected_at, selection, wanted_by}
use Rattle.world_laws.specs.World.{ClientConnection, World}

-- ---- the list

-- the objects of the task that stand now
abbrev pub listed_now : Task → History → Objects
listed_now task m = selected_at task m m.current

-- the page of them that begins behind a key, or the first
abbrev pub page_now : Task → History → Option Key → SeenPage
page_now task m after = seen_page (selection task) after (page_limit task.settings.page) (state_at m.changes m.current)

-- the collection that the task is of, as its page names it
abbrev pub collection : Task → Collection
collection task = collection_of task.t task.settings.kind task.settings.namespace

-- the client's request for the page behind a token, or for the first
abbrev pub list_request : Task → Option (List ℕ) → List ℕ
list_request task token = request (codes "GET") (path_of (wanted_by task) ++ 63 ∷ list_query (client_settings task) token) None

-- its request for a watch from a revision
abbrev pub watch_request : Task → ℕ → List ℕ
watch_request task revision = request (codes "GET") (path_of (wanted_by task) ++ 63 ∷ watch_query (client_settings task) revision) None

-- ---- what it needs

-- the list has at most so many pages
pub record FitsIn (task : Task) (m : History) (pages : ℕ) : Type 0 where
  pub some : 1 ≤ pages
  pub hold : fin.len (listed_now task m) ≤ pages * task.settings.page

-- each end takes what the other prints
pub record IsListable (task : Task) (m : History) : Type 0 where
  -- the server refuses a head that is too long by 431 as often as it comes: the one for the first page is as long as the selector makes it ..
  pub first_head : length (list_request task None) ≤ max_head
  -- .. and one for another page is longer by the token, which names the object that it goes on behind
  pub next_heads : AllByRecursion (λ e. length (list_request task (Some (continued_at m.current e.0))) ≤ max_head) (fin.entries (listed_now task m))
  -- the client gives a body up that is too long, and begins anew with the first page
  pub bodies : (after : Option Key) → length (list_text (collection task) m.current (page_now task m after)) ≤ max_body
  -- and so it does with a list of too many objects
  pub few : fin.len (listed_now task m) ≤ max_objects
  -- what is printed is Unicode, as what the server read was
  pub unicode : AreUnicode m.changes

-- a hub has room for one connection after another, each under an id of its own
pub record HasRoom (all : Connections) (sends : ℕ) : Type 0 where
  -- ids are numbers of 64 bits, and none is used twice
  pub ids : highest (fin.keys all) + sends ≤ 18446744073709551615
  -- where as many are open as may be the server refuses the next by 503
  pub room : open_count all < max_open

-- the connections of others: all but the client's
abbrev pub others_of : Connections → Option ClientConnection → Connections
others_of all None = all
others_of all (Some own) = fin.remove all own.id

-- The same for the client alone, which leaves its connection before it opens the next: others leave one.
pub record OthersLeaveRoom (w : World) (sends : ℕ) : Type 0 where
  pub ids : highest (fin.keys w.hub.connections) + sends ≤ 18446744073709551615
  pub room : open_count (others_of w.hub.connections w.connection) < max_open
