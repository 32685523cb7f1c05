-- What is known below of a server, of its client and of the bytes between them, as one record: the laws here stand on it.
use Rattle.std.specs.Prelude.{◌≡◌, ◌≤◌, ◌<◌, ◌^◌, ℕ, false, List, [], ◌∷◌, ◌++◌, length, Option, Some, None, Ok, IsUtf8}
use Rattle.std.specs.List.{list_any}
use Rattle.http.specs.StatusCode.{IsStatusCode}
use Rattle.api_types.specs.TypesFile.{ServedShape}
use Rattle.history.specs.History.{History, Key, fresh, state_at}
use Rattle.history.specs.Seen.{seen_page}
use Rattle.params.specs.Values.{Token, Values}
use Rattle.lists.specs.Body.{list_text}
use Rattle.lists.specs.Lists.{page_limit, page_of}
use Rattle.lists.specs.Revision.{revision_of}
use Rattle.lists.specs.TokenLaws.{token_after}
use Rattle.api_request.specs.Calls.{Call}
use Rattle.verbs.specs.Machine.{AreObjectTypes, AreUnicode, IsMachine}
use Rattle.verbs.specs.Step.{collection_of, planned}
use Rattle.requests.specs.Asks.{Asks}
use Rattle.requests.specs.Bodies.{needs_body}
use Rattle.requests.specs.ReplyBytes.{reply}
use Rattle.httpedge.specs.Runs as runs
use Rattle.httpedge.specs.Steps.{State}
use Rattle.wireclient.specs.Reads.{Items, max_body}
use Rattle.wireclient.specs.Reply.{end, head, whole}
use Rattle.wireclient.specs.Request.{request}
use Rattle.wire_laws.specs.Listings.{IsListing, page_plan}
use Rattle.wire_laws.specs.Printed.{IsAllowed, IsPrinted, asked_without, is_question}
use Rattle.wire_laws.specs.Replied.{reply_sent}
use Rattle.world_laws.proofs.Laws.{Laws}
use Rattle.world_laws.specs.Headline.{Headline}
use Rattle.world_laws.specs.ListCalls.{IsListCall, IsReadAsPageIfUtf8, page_values}
use Rattle.world_laws.specs.Tasks.{IsStillTask, IsTask, Task, selection, wanted_by}

-- a request without a body asks what its path and its query lead to (`wire_laws::requests_ask`)
abbrev pub RequestsAsk : Type 0
RequestsAsk =
    (types : List ServedShape) (method path query : List ℕ) → list_any is_question path ≡ false → needs_body method ≡ false → IsPrinted method (path ++ 63 ∷ query) None
    → Asks types (request method (path ++ 63 ∷ query) None) (asked_without types method path query)

-- a client's request for a page is answered by that page, and the client reads it
pub record PagesAreAnswered : Type 0 where
  pub asks : RequestsAsk
  pub planned_so : (types : List ServedShape) (m : History) (call : Call) (t : ServedShape) (kind : ℕ) (namespace : Option (List ℕ)) (values : Values) (revision : ℕ) → IsListing types call t kind namespace values
      → revision_of m.current m.compacted values ≡ Ok revision
      → planned types m call ≡ page_plan (list_text (collection_of t kind namespace) revision (page_of (collection_of t kind namespace) values (state_at m.changes revision)))
  pub replies : (code : ℕ) (allow : Option (List ℕ)) (body : List ℕ) → IsStatusCode code → IsAllowed allow → length body < 2 ^ 64 → Items (reply code allow body) (reply_sent code body)
  pub short : (code : ℕ) (body : List ℕ) → length body ≤ max_body → reply_sent code body ≡ head code ∷ whole body ∷ end ∷ []
  pub first : (types : List ServedShape) (task : Task) (machine : History) (call : Call) → IsTask types task → IsMachine types machine → IsListCall types task None call
      → IsReadAsPageIfUtf8 (wanted_by task) (planned types machine call).answer.body machine.current
      (seen_page (selection task) None (page_limit task.settings.page) (state_at machine.changes machine.current))
  pub next : (types : List ServedShape) (task : Task) (machine : History) (revision : ℕ) (k : Key) (call : Call) → IsTask types task → IsMachine types machine
      → IsListCall types task (Some (token_after revision k)) call → k.kind ≡ task.settings.kind → machine.compacted ≤ revision → revision ≤ machine.current
      → IsReadAsPageIfUtf8 (wanted_by task) (planned types machine call).answer.body revision
      (seen_page (selection task) (Some k) (page_limit task.settings.page) (state_at machine.changes revision))
  pub texts : (types : List ServedShape) (task : Task) (machine : History) (token : Option Token) (revision : ℕ) (call : Call) → IsTask types task → IsMachine types machine → IsListCall types task token call
      → revision_of machine.current machine.compacted (page_values task token) ≡ Ok revision → AreUnicode machine.changes → IsUtf8 (planned types machine call).answer.body

-- a hub begins with a machine, and whatever happens to it has one, and a task over its types stays one
pub record Lasts : Type 0 where
  pub begins : (types : List ServedShape) → AreObjectTypes types → IsMachine types (fresh 1)
  pub machines : (s t : State) (hs : List runs.Action) → IsMachine s.types s.machine → runs.Runs s hs t → IsMachine t.types t.machine
  pub tasks : (s t : State) (hs : List runs.Action) (task : Task) → IsStillTask s.types task → runs.Runs s hs t → IsStillTask t.types task

pub record BothEnds : Type 0 where
  pub bytes : Laws
  pub pages : PagesAreAnswered
  pub lasts : Lasts
  pub headline : Headline
