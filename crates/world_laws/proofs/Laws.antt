-- What the crates below say of the hub and of bytes that are read, as the proofs here use it.
use Rattle.std.specs.Prelude.{◌≡◌, ℕ, ◌≤◌, Bool, true, List, ◌∷◌, ◌++◌, map}
use Rattle.std.specs.List.{All}
use Rattle.api_types.specs.TypesFile.{ServedShape}
use Rattle.history.specs.History.{up_to}
use Rattle.api_request.specs.Calls.{Denied}
use Rattle.verbs.specs.Machine.{IsMachine}
use Rattle.api_request.specs.Reasons.{code_of}
use Rattle.requests.specs.Asks.{Asks}
use Rattle.requests.specs.Decision.{refused}
use Rattle.requests.specs.Refusals.{as_denied, too_many_connections}
use Rattle.requests.specs.Replies.{refusal_reply}
use Rattle.requests.specs.ReplyBytes.{chunks, watch_head}
use Rattle.httpedge.specs.Runs.{Action, Follows, HasGrown, Runs}
use Rattle.httpedge.specs.Steps.{State}
use Rattle.wireclient.specs.LineLaws.{HasNoFeed, with_feed}
use Rattle.wireclient.specs.Reads.{Items, has_closed}
use Rattle.wireclient.specs.Reply.{ReplyItem, head}
use Rattle.wire_laws.specs.Watched.{sent_of}
use Rattle.world_laws.proofs.ClientLaws.{ClientLaws}

-- the items of a refusal's reply begin with its status
abbrev pub IsDenial : Denied → Type 0
IsDenial d = (others : List ReplyItem) × Items (refusal_reply d) (head (code_of d.reason) ∷ others)

pub record Laws : Type 0 where
  pub client : ClientLaws
  -- bytes hold one list of items; those of a prefix are a prefix of it, and after the last item come no more
  pub one : (bytes : List ℕ) (items others : List ReplyItem) → Items bytes items → Items bytes others → items ≡ others
  pub same : (bytes more : List ℕ) (before items : List ReplyItem) → Items bytes before → Items (bytes ++ more) items → (after : List ReplyItem) × (items ≡ before ++ after)
  pub closed : (bytes more : List ℕ) (items : List ReplyItem) → Items bytes items → has_closed items ≡ true → Items (bytes ++ more) items
  -- watches and refusals are read
  pub watch : (texts : List (List ℕ)) (has_ended : Bool) → All HasNoFeed texts → Items (watch_head 200 ++ chunks (map with_feed texts) has_ended) (sent_of 200 texts has_ended)
  pub asked : (types : List ServedShape) (bytes : List ℕ) (d : Denied) → Asks types bytes (refused d) → IsDenial d
  pub full : IsDenial (as_denied too_many_connections)
  -- the machine of a hub stays one, and grows
  pub grows : (s t : State) (h : Action) → Follows s h t → HasGrown s t
  pub stays : (s t : State) (r : ℕ) → HasGrown s t → r ≤ s.machine.current → up_to r t.machine.changes ≡ up_to r s.machine.changes
  pub lasts : (s t : State) (hs : List Action) → IsMachine s.types s.machine → Runs s hs t → IsMachine t.types t.machine
