-- A client against a server: what it keeps, and what is still to come to it, beside the objects at each revision.
use Rattle.std.specs.Prelude.{◌≡◌, ℕ, ◌<◌, ◌≤◌, Bool, true, is_some, List, [], ◌∷◌, ◌++◌, Option, Some, None, ⊤}
use Rattle.std.specs.FinMap as fin
use Rattle.indexer.specs.Objects.{Place, Stored}
use Rattle.wireclient.specs.Reply.{ReplyItem}
use Rattle.decoder.specs.Wanted.{Wanted}
use Rattle.decoder.specs.Lines.{Line, put, deleted, bookmark, error}
use Rattle.reflector.specs.Client.{Objects, place_in, by_place, Cache, SyncPhase, first, next, streaming, Client}
use Rattle.reflector.specs.Items.{Response, begun, page, line, said_of_list, said_of_watch}

-- the objects at each revision, as the client's lists and watches see them; the last revision; and whether a token is
-- the one that goes on behind these objects of the list at a revision
pub record Server : Type 0 where
  pub at : ℕ → Objects
  pub top : ℕ
  pub continues : ℕ → List Stored → List ℕ → Bool

-- ---- what the client keeps

-- the cache is at m, the highest revision that the client ever reported, and has the server's objects of it
abbrev pub IsCacheOf : Server → ℕ → Option Cache → Type 0
IsCacheOf server m None = ⊤
IsCacheOf server m (Some now) = (now.revision ≡ m) × (now.objects ≡ server.at now.revision)

-- with a token the first objects at the revision, behind which it goes on; else all of them
abbrev pub IsPart : Server → ℕ → List Stored → Option (List ℕ) → Type 0
IsPart server r objects None = fin.entries (server.at r) ≡ by_place objects
IsPart server r objects (Some token) = (rest : List (Place × Stored)) × (fin.entries (server.at r) ≡ by_place objects ++ rest) × (server.continues r objects token ≡ true)

abbrev pub IsSyncSound : Server → ℕ → SyncPhase → Option Cache → Type 0
IsSyncSound server m first cache = ⊤
IsSyncSound server m (next r token paged_list) cache = (m ≤ r) × (r ≤ server.top) × IsPart server r paged_list (Some token)
IsSyncSound server m streaming cache = is_some cache ≡ true

-- ---- what is to come

-- a page goes on behind what is set aside; what comes after it, or after what doesn't fit, isn't received
abbrev pub IsListStep : Server → ℕ → List Stored → Response → Type 0 → Type 0
IsListStep server m paged_list begun others = others
IsListStep server m paged_list (page p) others = (m ≤ p.revision) × (p.revision ≤ server.top) × IsPart server p.revision (paged_list ++ p.objects) p.token
IsListStep server m paged_list _ others = ⊤

-- these items answer a list that asks what comes behind these objects
abbrev pub IsListReply : Server → Wanted → ℕ → List Stored → List ReplyItem → Type 0
IsListReply server wanted m paged_list [] = ⊤
IsListReply server wanted m paged_list (x ∷ xs) = IsListStep server m paged_list (said_of_list wanted x) (IsListReply server wanted m paged_list xs)

-- a line leads from the objects at r to those at its own revision, from which the others lead on
abbrev pub IsLineStep : Server → ℕ → Line → (ℕ → Type 0) → Type 0
IsLineStep server r (put o) others = (r < o.revision) × (o.revision ≤ server.top) × (fin.insert (server.at r) (place_in o) o ≡ server.at o.revision) × others o.revision
IsLineStep server r (deleted o) others = (r < o.revision) × (o.revision ≤ server.top) × (fin.remove (server.at r) (place_in o) ≡ server.at o.revision) × others o.revision
IsLineStep server r (bookmark q) others = (r ≤ q) × (q ≤ server.top) × (server.at r ≡ server.at q) × others q
IsLineStep server r error others = ⊤

abbrev pub IsWatchStep : Server → ℕ → Response → (ℕ → Type 0) → Type 0
IsWatchStep server r begun others = others r
IsWatchStep server r (line l) others = IsLineStep server r l others
IsWatchStep server r _ others = ⊤

-- these items of a watch lead from the objects at r to those at p
abbrev pub IsWatchReply : Server → Wanted → ℕ → List ReplyItem → ℕ → Type 0
IsWatchReply server wanted r [] p = (r ≤ p) × (p ≤ server.top) × (server.at r ≡ server.at p)
IsWatchReply server wanted r (x ∷ xs) p = IsWatchStep server r (said_of_watch wanted x) (λ q. IsWatchReply server wanted q xs p)

-- these items answer what the client asks
abbrev pub IsReplyTo : Server → Wanted → ℕ → SyncPhase → Option Cache → List ReplyItem → ℕ → Type 0
IsReplyTo server wanted m first cache xs p = IsListReply server wanted m [] xs
IsReplyTo server wanted m (next r token paged_list) cache xs p = IsListReply server wanted m paged_list xs
IsReplyTo server wanted m streaming None xs p = ⊤
IsReplyTo server wanted m streaming (Some now) xs p = IsWatchReply server wanted now.revision xs p

-- ---- both

-- m is the highest revision that the client ever reported; xs are the items that are still to come, if a request is
-- under way, and lead, of a watch, to p
pub record Follows (server : Server) (wanted : Wanted) (m : ℕ) (c : Client) (xs : List ReplyItem) (p : ℕ) : Type 0 where
  pub low : m ≤ server.top
  pub cache : IsCacheOf server m c.cache
  pub sync : IsSyncSound server m c.sync c.cache
  pub coming : c.is_awaiting_reply ≡ true → IsReplyTo server wanted m c.sync c.cache xs p

-- from some revision on, which is not below m
abbrev pub FollowsFrom : Server → Wanted → ℕ → Client → List ReplyItem → ℕ → Type 0
FollowsFrom server wanted m c xs p = (n : ℕ) × (m ≤ n) × Follows server wanted n c xs p

-- a server that has changed since: what it had stays
pub record IsLater (server later : Server) : Type 0 where
  pub same : (r : ℕ) → r ≤ server.top → later.at r ≡ server.at r
  pub higher : server.top ≤ later.top
  pub tokens : (r : ℕ) (objects : List Stored) (token : List ℕ) → r ≤ server.top → later.continues r objects token ≡ server.continues r objects token
