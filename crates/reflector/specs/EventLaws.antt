-- A client beside a server, over a run of events.
use Rattle.std.specs.Prelude.{◌≡◌, ℕ, ◌≤◌, List, [], ◌∷◌, ◌++◌, take, drop, Option, Some, None, ⊤}
use Rattle.std.specs.FinMap as fin
use Rattle.wireclient.specs.Reply.{ReplyItem}
use Rattle.decoder.specs.Wanted.{Wanted}
use Rattle.reflector.specs.Client.{Objects, Cache, streaming, Client, fresh, kept}
use Rattle.reflector.specs.Run.{relisting, asked, closed, receives_all, restarted, taken}
use Rattle.reflector.specs.FollowsLaws.{Server, IsReplyTo, IsLater, IsWatchReply}
use Rattle.reflector.specs.ReplayLaws.{LeadFrom}

pub data Event : Type 0 where
  requested : (items : List ReplyItem) → (to : ℕ) → Event  -- a request, and the items that answer it; of a watch, they lead to a revision
  writes : (items : List ReplyItem) → (to : ℕ) → Event  -- more items of the watch under way
  receives : ℕ → Event  -- so many of the items that are still to come
  cut abandons restart takes : Event  -- the connection ends, the reply is given up, the client restarts, its notices are taken
  grows : Server → Event  -- the server changes

-- coming: the items of the reply under way that are still to come; they lead, of a watch, to a revision. highest: the
-- highest revision that the client reported so far
pub record ClientAndServer : Type 0 where
  pub server : Server
  pub client : Client
  pub coming : List ReplyItem
  pub to : ℕ
  pub highest : ℕ

abbrev pub start : Server → ClientAndServer
start server = record { server = server; client = fresh; coming = []; to = 0; highest = 0 }

-- what a server that has what it had before, and answers what is asked, lets happen
abbrev pub IsLawful : Wanted → ClientAndServer → Event → Type 0
IsLawful wanted b (requested items to) = IsReplyTo b.server wanted b.highest b.client.sync b.client.cache items to
IsLawful wanted b (writes items to) = (b.client.sync ≡ streaming) × IsWatchReply b.server wanted b.to items to
IsLawful wanted b (receives n) = ⊤
IsLawful wanted b cut = ⊤
IsLawful wanted b abandons = ⊤
IsLawful wanted b restart = ⊤
IsLawful wanted b takes = ⊤
IsLawful wanted b (grows later) = IsLater b.server later

abbrev pub highest_with : ℕ → Option Cache → ℕ
highest_with m None = m
highest_with m (Some now) = now.revision

abbrev pub with_client : ℕ → Server → Client → List ReplyItem → ℕ → ClientAndServer
with_client m server client coming to = record { server = server; client = client; coming = coming; to = to; highest = highest_with m client.cache }

abbrev pub after : Wanted → ClientAndServer → Event → ClientAndServer
after wanted b (requested items to) = with_client b.highest b.server (asked b.client) items to
after wanted b (writes items to) = with_client b.highest b.server b.client (b.coming ++ items) to
after wanted b (receives n) = with_client b.highest b.server (receives_all wanted b.client (take n b.coming)) (drop n b.coming) b.to
after wanted b cut = with_client b.highest b.server (closed b.client) [] 0
after wanted b abandons = with_client b.highest b.server (relisting b.client) [] 0
after wanted b restart = with_client b.highest b.server (restarted b.client) [] 0
after wanted b takes = with_client b.highest b.server (taken b.client) b.coming b.to
after wanted b (grows later) = with_client b.highest later b.client b.coming b.to

abbrev pub AreLawful : Wanted → ClientAndServer → List Event → Type 0
AreLawful wanted b [] = ⊤
AreLawful wanted b (e ∷ es) = IsLawful wanted b e × AreLawful wanted (after wanted b e) es

-- the server's objects at a revision that it has, which is not below any reported before
abbrev pub CacheMatches : Server → ℕ → Option Cache → Type 0
CacheMatches server m None = ⊤
CacheMatches server m (Some now) = (m ≤ now.revision) × (now.revision ≤ server.top) × (now.objects ≡ server.at now.revision)

-- what is kept is right after each event
abbrev pub CachesMatch : Wanted → ClientAndServer → List Event → Type 0
CachesMatch wanted b [] = ⊤
CachesMatch wanted b (e ∷ es) = CacheMatches (after wanted b e).server b.highest (after wanted b e).client.cache × CachesMatch wanted (after wanted b e) es

-- the objects as they were when the notices were taken last; none at the start, nor after a restart
abbrev pub taken_last : ClientAndServer → Objects → Event → Objects
taken_last b o (requested items to) = o
taken_last b o (writes items to) = o
taken_last b o (receives n) = o
taken_last b o cut = o
taken_last b o abandons = o
taken_last b o restart = fin.empty
taken_last b o takes = kept b.client.cache
taken_last b o (grows later) = o

-- after each event the waiting notices lead from those objects to the ones that are kept
abbrev pub AllLead : Wanted → ClientAndServer → Objects → List Event → Type 0
AllLead wanted b o [] = ⊤
AllLead wanted b o (e ∷ es) = LeadFrom (taken_last b o e) (after wanted b e).client × AllLead wanted (after wanted b e) (taken_last b o e) es
