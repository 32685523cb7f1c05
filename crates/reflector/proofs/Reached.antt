-- A watch whose items all fit ends with the objects to which they lead.
use Rattle.std.proofs.Common.{◌≡◌, ℕ, Bool, true, false, cond, ◌&&◌, List, [], ◌∷◌, refl, sym, ap, subst, ◌∙◌, Option, Some, None, true≢false, append-nil}
use Rattle.std.specs.Prelude.{nat_lt, nat_le}
use Rattle.std.specs.FinMap as fin
use Rattle.wireclient.specs.Reply.{ReplyItem}
use Rattle.decoder.specs.Wanted.{Wanted}
use Rattle.decoder.specs.Lines.{Line, put, deleted, bookmark, error}
use Rattle.reflector.specs.Client.{Objects, place_in, max_objects, Notice, Cache, SyncPhase, first, next, streaming, Client, kept, notice_of}
use Rattle.reflector.specs.Items.{Response, begun, page, line, over, unexpected, said_of_watch}
use Rattle.reflector.specs.Run.{relisting, moved, with_line, with_watch, with_item, receives, receives_all}
use Rattle.reflector.specs.FollowsLaws.{Server, IsCacheOf, IsSyncSound, IsReplyTo, Follows, FollowsFrom}
use Rattle.reflector.proofs.Follows.{items_received}

-- a client that asks nothing hears nothing
pub stays : (wanted : Wanted) (c : Client) (xs : List ReplyItem) → c.is_awaiting_reply ≡ false → receives_all wanted c xs ≡ c
stays wanted c [] h = refl
stays wanted c (x ∷ xs) h = ap (λ b. receives_all wanted (cond b (with_item wanted c c.sync x) c) xs) h ∙ stays wanted c xs h

pub was_awaiting_reply : (wanted : Wanted) (c : Client) (xs : List ReplyItem) → (receives_all wanted c xs).is_awaiting_reply ≡ true → c.is_awaiting_reply ≡ true
was_awaiting_reply wanted c xs e = go c.is_awaiting_reply refl
  where
    go : (b : Bool) → c.is_awaiting_reply ≡ b → b ≡ true
    go true h = refl
    go false h = absurd (true≢false (sym e ∙ ap (λ d. d.is_awaiting_reply) (stays wanted c xs h) ∙ h))

-- it still asks, and for changes
abbrev pub Stays : Client → Type 0
Stays c = c.is_awaiting_reply ≡ true → c.sync ≡ streaming

checked : (b : Bool) (c : Client) (revision : ℕ) (objects : Objects) (notices : List Notice) → Stays (cond b (moved c revision objects notices) (relisting c))
checked true c revision objects notices e = refl
checked false c revision objects notices e = absurd (true≢false (sym e))

line_stays : (c : Client) (now : Cache) (l : Line) → Stays (with_line c now l)
line_stays c now (put o) =
    checked (nat_lt now.revision o.revision && nat_le (fin.len (fin.insert now.objects (place_in o) o)) max_objects) c o.revision (fin.insert now.objects (place_in o) o)
    (notice_of (fin.get now.objects (place_in o)) (Some o))
line_stays c now (deleted o) = checked (nat_lt now.revision o.revision) c o.revision (fin.remove now.objects (place_in o)) (notice_of (fin.get now.objects (place_in o)) None)
line_stays c now (bookmark q) = checked (nat_le now.revision q) c q now.objects []
line_stays c now error = λ e. absurd (true≢false (sym e))

response_stay : (c : Client) (cache : Option Cache) (response : Response) → c.sync ≡ streaming → Stays (with_watch c cache response)
response_stay c None begun is = λ e. is
response_stay c (Some now) begun is = λ e. is
response_stay c None (page p) is = λ e. absurd (true≢false (sym e))
response_stay c (Some now) (page p) is = λ e. absurd (true≢false (sym e))
response_stay c None (line l) is = λ e. absurd (true≢false (sym e))
response_stay c (Some now) (line l) is = line_stays c now l
response_stay c None over is = λ e. refl
response_stay c (Some now) over is = λ e. refl
response_stay c None unexpected is = λ e. absurd (true≢false (sym e))
response_stay c (Some now) unexpected is = λ e. absurd (true≢false (sym e))

item_stays : (wanted : Wanted) (c : Client) (sync : SyncPhase) (x : ReplyItem) → sync ≡ streaming → c.sync ≡ streaming → Stays (with_item wanted c sync x)
item_stays wanted c sync x is same = subst (λ a. Stays (with_item wanted c a x)) (sym is) (response_stay c c.cache (said_of_watch wanted x) same)

step_stays : (wanted : Wanted) (c : Client) (x : ReplyItem) → c.sync ≡ streaming → Stays (receives wanted c x)
step_stays wanted c x is = go c.is_awaiting_reply
  where
    go : (b : Bool) → Stays (cond b (with_item wanted c c.sync x) c)
    go true = item_stays wanted c c.sync x is is
    go false = λ e. is

pub all_stay : (wanted : Wanted) (c : Client) (xs : List ReplyItem) → c.sync ≡ streaming → Stays (receives_all wanted c xs)
all_stay wanted c [] is e = is
all_stay wanted c (x ∷ xs) is e = all_stay wanted (receives wanted c x) xs (step_stays wanted c x is (was_awaiting_reply wanted (receives wanted c x) xs e)) e

-- what a watch that goes on has reached
at_end : (server : Server) (wanted : Wanted) (n : ℕ) (sync : SyncPhase) (cache : Option Cache) (p : ℕ) → sync ≡ streaming → IsCacheOf server n cache → IsSyncSound server n sync cache
    → IsReplyTo server wanted n sync cache [] p → kept cache ≡ server.at p
at_end server wanted n first cache p is held asked comes = absurd cc
at_end server wanted n (next r token paged_list) cache p is held asked comes = absurd cc
at_end server wanted n streaming None p is held asked comes = absurd (true≢false (sym asked))
at_end server wanted n streaming (Some now) p is held asked comes = held.1 ∙ comes.2

pub reaches : (server : Server) (wanted : Wanted) (m : ℕ) (c : Client) (xs : List ReplyItem) (p : ℕ) → Follows server wanted m c xs p → c.sync ≡ streaming → (receives_all wanted c xs).is_awaiting_reply ≡ true
    → kept (receives_all wanted c xs).cache ≡ server.at p
reaches server wanted m c xs p is sync e =
    let on : FollowsFrom server wanted m (receives_all wanted c xs) [] p = items_received server wanted m c xs [] p (subst (λ ys. Follows server wanted m c ys p) (sym (append-nil xs)) is) in
    at_end server wanted on.0 (receives_all wanted c xs).sync (receives_all wanted c xs).cache p (all_stay wanted c xs sync e) on.2.cache on.2.sync (on.2.coming e)
