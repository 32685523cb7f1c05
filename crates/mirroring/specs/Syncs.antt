-- A client that catches up: turns that are taken until its cache is of a revision that isn't below the least one that is wanted.
use Rattle.std.specs.Prelude.{◌≡◌, ◌≤◌, ◌<◌, ◌⊎◌, ◌*◌, ℕ, nat_le, Bool, true, false, List, [], ◌∷◌, ◌++◌, length, Option, Some, None, is_some, ⊤}
use Rattle.std.specs.declared.result.Result.TheVariants.{Ok}
use Rattle.std.specs.List.{AllByRecursion}
use Rattle.std.specs.FinMap as fin
use Rattle.std.specs.Io.KnownBytes.{Consumes}
use Rattle.indexer.specs.Objects.{Stored}
use Rattle.wireclient.specs.Reads.{Items}
use Rattle.wireclient.specs.Reply.{ReplyItem, head, whole, end}
use Rattle.decoder.specs.Pages.{Page, page_in}
use Rattle.decoder.specs.Wanted.{Wanted}
use Rattle.reflector.specs.Client.{Cache, Client, Objects, first, max_objects}
use Rattle.reflector.specs.FollowsLaws.{Follows, FollowsFrom, IsReplyTo, Server}
use Rattle.reflector.specs.InformerViews.{InformerRepresents, relist_reason_in}
use Rattle.reflector.specs.ListLaws.{ArePages}
use Rattle.reflector.specs.RelistReasons.{relist_reason_after}
use Rattle.reflector.specs.Requests.{Settings, request_of}
use Rattle.reflector.specs.Run.{asked, closed, receives_all, relisting}
use Rattle.reflector.specs.declared.informer.Informer.{Informer}
use Rattle.reflector.specs.declared.relist_reason.RelistReason.{RelistReason}
use Rattle.mirroring.specs.Turns.{Is, LearnsReason}

-- there is a whole list, and its revision, or that of the watch since, isn't below the least
abbrev pub has_reached : ℕ → Option Cache → Bool
has_reached least None = false
has_reached least (Some now) = nat_le least now.revision

-- ---- what the transport hands

-- a reply to what is due, and the end of its connection
abbrev pub replied : Wanted → Client → List ReplyItem → Client
replied wanted c items = closed (receives_all wanted (asked c) items)

-- one for each request, one after another
abbrev pub all_replied : Wanted → Client → List (List ReplyItem) → Client
all_replied wanted c [] = c
all_replied wanted c (items ∷ replies) = all_replied wanted (replied wanted c items) replies

-- a dialer answers each request that is due with the next of these replies, is told why it was given up, if it was, and is another one then. Nothing is
-- asked once the revision is reached
abbrev pub Hands : {D : Type 0} → (D → List ℕ → List ℕ → D → Type 0) → (D → RelistReason → D → Type 0) → Settings → ℕ → D → Client → List (List ReplyItem) → D → Type 0
Hands answers learns s least a c [] b = b ≡ a
Hands {D} answers learns s least a c (items ∷ replies) b =
    (has_reached least c.cache ≡ false) × (bytes : List ℕ) × (mid : D) × (next : D) × answers a (request_of s c) bytes mid × Items bytes items
    × LearnsReason learns (relist_reason_after s.wanted (asked c) None items) mid next × Hands answers learns s least next (replied s.wanted c items) replies b

-- the informer and its dialer after so many turns; before all of them only where the revision is reached
abbrev pub CatchesUp : {I D : Type 0} → (I → Stored → List (List ℕ)) → (D → List ℕ → List ℕ → D → Type 0) → (D → RelistReason → D → Type 0) → Settings → ℕ → ℕ → D → Client → D → Informer I → List (List ReplyItem) → Type 0
CatchesUp keys answers learns s least turns a c b i replies =
    Hands answers learns s least a c replies b × Is keys i (all_replied s.wanted c replies) × (length replies ≤ turns)
    × (has_reached least (all_replied s.wanted c replies).cache ≡ false → length replies ≡ turns)

-- ---- what a transport that keeps its word hands

-- the revision of the cache, or else the highest that was reported before
abbrev pub reported : ℕ → Option Cache → ℕ
reported m None = m
reported m (Some now) = now.revision

-- each reply, as far as it was read, is the front of one that keeps to the server's states and answers what the client asked
abbrev pub KeepTo : Server → Wanted → ℕ → Client → List (List ReplyItem) → Type 0
KeepTo server wanted m c [] = ⊤
KeepTo server wanted m c (items ∷ replies) =
    ((others : List ReplyItem) × (p : ℕ) × IsReplyTo server wanted (reported m c.cache) c.sync c.cache (items ++ others) p)
    × KeepTo server wanted m (replied wanted c items) replies

-- the replies are answers of these bodies, each whole, as far as there are as many of both
abbrev pub AreWhole : List (List ℕ) → List (List ReplyItem) → Type 0
AreWhole [] replies = ⊤
AreWhole (body ∷ bodies) [] = ⊤
AreWhole (body ∷ bodies) (items ∷ replies) = (items ≡ head 200 ∷ whole body ∷ end ∷ []) × AreWhole bodies replies

-- each page but the last has so many objects
abbrev pub AreFull : Wanted → ℕ → List (List ℕ) → Type 0
AreFull wanted size bodies = AllByRecursion (λ body. (p : Page) → page_in wanted body ≡ Ok p → is_some p.token ≡ true → size ≤ length p.objects) bodies

-- so many turns are enough for these pages: they aren't more, or each but the last has so many objects that the last comes in time
abbrev pub AreFew : Wanted → Objects → List (List ℕ) → ℕ → Type 0
AreFew wanted o bodies turns = (length bodies ≤ turns) ⊎ ((size : ℕ) × AreFull wanted size bodies × (fin.len o < turns * size))

-- ---- what it leads to

-- the objects are the server's at the cache's revision, all of them and no other; the server has that revision, and it isn't below the least
abbrev pub IsCaughtUp : Server → ℕ → Option Cache → Type 0
IsCaughtUp server least None = ⊥
IsCaughtUp server least (Some now) = (now.objects ≡ server.at now.revision) × (least ≤ now.revision) × (now.revision ≤ server.top)

-- where the replies keep to a server, the client follows it on; and where the revision was reached, it has caught up
abbrev pub Follow : Wanted → ℕ → Client → List (List ReplyItem) → Client → Bool → Type 0
Follow wanted least c replies d is_there =
    (server : Server) (m p : ℕ) → Follows server wanted m c [] p → KeepTo server wanted m c replies
    → FollowsFrom server wanted m d [] p × (is_there ≡ true → IsCaughtUp server least d.cache)

-- a list whose pages come whole, one a turn, is reached within as many turns as it has pages: of n objects, so many on a page, within n / so many + 1
abbrev pub GetThere : Wanted → ℕ → ℕ → Client → List (List ReplyItem) → Bool → Type 0
GetThere wanted least turns c replies is_there =
    (o : Objects) (r : ℕ) (bodies : List (List ℕ)) → c.sync ≡ first → ArePages wanted o r [] bodies → fin.len o ≤ max_objects → least ≤ r → AreFew wanted o bodies turns
    → AreWhole bodies replies → is_there ≡ true

-- so many turns, whether the revision was reached, and what that leads to
abbrev pub Syncs : {I D : Type 0} → (I → Stored → List (List ℕ)) → (D → List ℕ → List ℕ → D → Type 0) → (D → RelistReason → D → Type 0) → Settings → ℕ → ℕ → D → Client → D → Informer I → Bool → Type 0
Syncs keys answers learns s least turns a c b i is_there =
    (replies : List (List ReplyItem)) × CatchesUp keys answers learns s least turns a c b i replies × (is_there ≡ has_reached least (all_replied s.wanted c replies).cache)
    × Follow s.wanted least c replies (all_replied s.wanted c replies) is_there × GetThere s.wanted least turns c replies is_there

-- what a fault leaves of a turn: nothing was asked, or a part of the reply was received, behind which the connection ended or the reply was given up
abbrev pub IsLeftOf : Wanted → Client → List ReplyItem → Client → Type 0
IsLeftOf wanted c part d = (d ≡ c) ⊎ ((d ≡ closed (receives_all wanted (asked c) part)) ⊎ (d ≡ relisting (receives_all wanted (asked c) part)))

-- the informer after a turn that a fault ended; the part is the front of what some bytes hold
abbrev pub Leaves : {I : Type 0} → (I → Stored → List (List ℕ)) → Wanted → Client → List ReplyItem → Client → Informer I → Type 0
Leaves keys wanted c part d i = (bytes : List ℕ) × (others : List ReplyItem) × Items bytes (part ++ others) × IsLeftOf wanted c part d × Is keys i d

-- fewer turns, and then a fault: where no connection was found, what was asked begins again. The client follows on what it followed
abbrev pub SyncsSome : {I D : Type 0} → (I → Stored → List (List ℕ)) → (D → List ℕ → List ℕ → D → Type 0) → (D → RelistReason → D → Type 0) → Settings → ℕ → ℕ → D → Client → Informer I → Bool → Type 0
SyncsSome {I} {D} keys answers learns s least turns a c i is_undialled =
    (replies : List (List ReplyItem)) × (part : List ReplyItem) × (b : D) × (d : Client) × Hands answers learns s least a c replies b
    × (has_reached least (all_replied s.wanted c replies).cache ≡ false) × (length replies < turns) × Leaves keys s.wanted (all_replied s.wanted c replies) part d i
    × (is_undialled ≡ true → d ≡ closed (asked (all_replied s.wanted c replies)))
    × ((server : Server) (m p : ℕ) → Follows server s.wanted m c [] p → KeepTo server s.wanted m c (replies ++ part ∷ []) → FollowsFrom server s.wanted m d [] p)

-- ---- one turn

-- all that left the reader, since the request was sent, was received
abbrev pub Received : {I : Type 0} → (I → Stored → List (List ℕ)) → Wanted → Client → Informer I → Option (List ℕ) → Option (List ℕ) → Type 0
Received keys wanted c i unread left =
    (bytes : List ℕ) × (items : List ReplyItem) × Items bytes items × Consumes unread left bytes
    × InformerRepresents keys i (receives_all wanted (asked c) items) bytes items × (relist_reason_in i ≡ relist_reason_after wanted (asked c) None items)

-- the request that is due was answered, and the connection has ended
abbrev pub Replies : {I D : Type 0} → (I → Stored → List (List ℕ)) → (D → List ℕ → List ℕ → D → Type 0) → Settings → D → Client → D → Informer I → Type 0
Replies keys answers s a c b i =
    (bytes : List ℕ) × (items : List ReplyItem) × answers a (request_of s c) bytes b × Items bytes items × Is keys i (replied s.wanted c items)
    × (relist_reason_in i ≡ relist_reason_after s.wanted (asked c) None items)

-- what a fault leaves of a reply while its connection is open
abbrev pub ReceivedUntilFault : {I : Type 0} → (I → Stored → List (List ℕ)) → Wanted → Client → Informer I → Type 0
ReceivedUntilFault keys wanted c i =
    (part : List ReplyItem) × (d : Client) × (bytes : List ℕ) × (others : List ReplyItem) × Items bytes (part ++ others)
    × ((d ≡ receives_all wanted (asked c) part) ⊎ (d ≡ relisting (receives_all wanted (asked c) part))) × Is keys i d
