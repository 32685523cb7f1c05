-- A client is right after each event of a run.
use Rattle.std.proofs.Common.{◌≡◌, ℕ, ◌≤◌, List, [], ◌∷◌, ◌++◌, take, drop, Option, Some, None, refl, sym, subst, arith, take-append-drop}
use Rattle.wireclient.specs.Reply.{ReplyItem}
use Rattle.decoder.specs.Wanted.{Wanted}
use Rattle.indexer.specs.Objects.{Stored}
use Rattle.reflector.specs.Client.{SyncPhase, first, next, streaming, Cache, Client, fresh}
use Rattle.reflector.specs.Items.{Response, begun, page, line, over, unexpected, said_of_list}
use Rattle.reflector.specs.Run.{relisting, asked, closed, taken}
use Rattle.reflector.specs.FollowsLaws.{Server, IsReplyTo, Follows, FollowsFrom, IsSyncSound, IsCacheOf, IsListStep, IsListReply, IsWatchReply}
use Rattle.reflector.specs.EventLaws.{Event, requested, writes, receives, cut, abandons, restart, takes, grows, ClientAndServer, start, IsLawful, highest_with, after, AreLawful, CacheMatches, CachesMatch}
use Rattle.reflector.proofs.Follows.{given_up, items_received, is_asked, is_closed, is_fresh, is_taken}
use Rattle.reflector.proofs.Grows.{follows_later, watches-append}

module _ (wanted : Wanted) where
  -- ---- with nothing kept a lower bound does

  goes_lower : (server : Server) (k n : ℕ) (paged_list : List Stored) (response : Response) (P Q : Type 0) → k ≤ n → (P → Q) → IsListStep server n paged_list response P → IsListStep server k paged_list response Q
  goes_lower server k n paged_list begun P Q le f is = f is
  goes_lower server k n paged_list (page p) P Q le f is = let a = is.0 in (omega (arith, a, le), is.1, is.2)
  goes_lower server k n paged_list (line l) P Q le f is = tt
  goes_lower server k n paged_list over P Q le f is = tt
  goes_lower server k n paged_list unexpected P Q le f is = tt

  lists_lower : (server : Server) (k n : ℕ) (paged_list : List Stored) (xs : List ReplyItem) → k ≤ n → IsListReply server wanted n paged_list xs → IsListReply server wanted k paged_list xs
  lists_lower server k n paged_list [] le is = tt
  lists_lower server k n paged_list (x ∷ xs) le is = goes_lower server k n paged_list (said_of_list wanted x) (IsListReply server wanted n paged_list xs) (IsListReply server wanted k paged_list xs) le (lists_lower server k n paged_list xs le) is

  comes_lower : (server : Server) (k n : ℕ) (what : SyncPhase) (xs : List ReplyItem) (p : ℕ) → k ≤ n → IsReplyTo server wanted n what None xs p → IsReplyTo server wanted k what None xs p
  comes_lower server k n first xs p le is = lists_lower server k n [] xs le is
  comes_lower server k n (next r token paged_list) xs p le is = lists_lower server k n paged_list xs le is
  comes_lower server k n streaming xs p le is = tt

  lower_sync : (server : Server) (k n : ℕ) (what : SyncPhase) (cache : Option Cache) → k ≤ n → IsSyncSound server n what cache → IsSyncSound server k what cache
  lower_sync server k n first cache le is = tt
  lower_sync server k n (next r token paged_list) cache le is = let a = is.0 in (omega (arith, a, le), is.1, is.2)
  lower_sync server k n streaming cache le is = is

  lowered : (server : Server) (k n : ℕ) (c : Client) (xs : List ReplyItem) (p : ℕ) → k ≤ n → c.cache ≡ None → Follows server wanted n c xs p → Follows server wanted k c xs p
  lowered server k n c xs p le none is =
      let a = is.low in
      record {
        low = omega (arith, a, le);
        cache = subst (IsCacheOf server k) (sym none) tt;
        sync = lower_sync server k n c.sync c.cache le is.sync;
        coming = λ awaiting_reply. subst (λ cache. IsReplyTo server wanted k c.sync cache xs p) (sym none) (comes_lower server k n c.sync xs p le (subst (λ cache. IsReplyTo server wanted n c.sync cache xs p) none (is.coming awaiting_reply)));
      }

  at_highest : (server : Server) (m n : ℕ) (c : Client) (xs : List ReplyItem) (p : ℕ) → m ≤ n → Follows server wanted n c xs p → Follows server wanted (highest_with m c.cache) c xs p
  at_highest server m n c xs p le is = go c.cache refl
    where
      go : (cache : Option Cache) → c.cache ≡ cache → Follows server wanted (highest_with m cache) c xs p
      go None e = lowered server m n c xs p le e is
      go (Some now) e = subst (λ k. Follows server wanted k c xs p) (sym (subst (IsCacheOf server n) e is.cache).0) is

  -- ---- more of a watch

  comes_more : (server : Server) (m : ℕ) (what : SyncPhase) (cache : Option Cache) (xs ys : List ReplyItem) (p q : ℕ) → what ≡ streaming → IsReplyTo server wanted m what cache xs p → IsWatchReply server wanted p ys q → IsReplyTo server wanted m what cache (xs ++ ys) q
  comes_more server m what cache xs ys p q e is more =
      subst (λ a. IsReplyTo server wanted m a cache (xs ++ ys) q) (sym e) (go cache (subst (λ a. IsReplyTo server wanted m a cache xs p) e is))
    where
      go : (cache : Option Cache) → IsReplyTo server wanted m streaming cache xs p → IsReplyTo server wanted m streaming cache (xs ++ ys) q
      go None h = tt
      go (Some now) h = watches-append server wanted now.revision p q xs ys h more

  is_written : (server : Server) (m : ℕ) (c : Client) (xs ys : List ReplyItem) (p q : ℕ) → Follows server wanted m c xs p → c.sync ≡ streaming → IsWatchReply server wanted p ys q → Follows server wanted m c (xs ++ ys) q
  is_written server m c xs ys p q is e more =
      record { low = is.low; cache = is.cache; sync = is.sync; coming = λ awaiting_reply. comes_more server m c.sync c.cache xs ys p q e (is.coming awaiting_reply) more }

  -- ---- one event

  abbrev IsBeside : ClientAndServer → Type 0
  IsBeside b = Follows b.server wanted b.highest b.client b.coming b.to

  at_least : (server : Server) (m : ℕ) (c : Client) (xs : List ReplyItem) (p : ℕ) → Follows server wanted m c xs p → FollowsFrom server wanted m c xs p
  at_least server m c xs p is = (m, omega arith, is)

  moves : (b : ClientAndServer) (e : Event) → IsBeside b → IsLawful wanted b e → FollowsFrom (after wanted b e).server wanted b.highest (after wanted b e).client (after wanted b e).coming (after wanted b e).to
  moves b (requested items to) is lawful = at_least b.server b.highest (asked b.client) items to (is_asked b.server wanted b.highest b.client b.coming items b.to to is lawful)
  moves b (writes items to) is lawful = at_least b.server b.highest b.client (b.coming ++ items) to (is_written b.server b.highest b.client b.coming items b.to to is lawful.0 lawful.1)
  moves b (receives n) is lawful =
      items_received b.server wanted b.highest b.client (take n b.coming) (drop n b.coming) b.to
      (subst (λ xs. Follows b.server wanted b.highest b.client xs b.to) (sym (take-append-drop n b.coming)) is)
  moves b cut is lawful = at_least b.server b.highest (closed b.client) [] 0 (is_closed b.server wanted b.highest b.client b.coming [] b.to 0 is)
  moves b abandons is lawful = at_least b.server b.highest (relisting b.client) [] 0 (given_up b.server wanted b.highest b.client [] 0 is.low is.cache)
  moves b restart is lawful = at_least b.server b.highest fresh [] 0 (is_fresh b.server wanted b.highest [] 0 is.low)
  moves b takes is lawful = at_least b.server b.highest (taken b.client) b.coming b.to (is_taken b.server wanted b.highest b.client b.coming b.to is)
  moves b (grows later) is lawful = at_least later b.highest b.client b.coming b.to (follows_later b.server later wanted lawful b.highest b.client b.coming b.to is)

  is_right : (server : Server) (m n : ℕ) (cache : Option Cache) → m ≤ n → n ≤ server.top → IsCacheOf server n cache → CacheMatches server m cache
  is_right server m n None le low is = tt
  is_right server m n (Some now) le low is = (subst (λ k. m ≤ k) (sym is.0) le, subst (λ k. k ≤ server.top) (sym is.0) low, is.1)

  all_right : (es : List Event) (b : ClientAndServer) → IsBeside b → AreLawful wanted b es → CachesMatch wanted b es
  all_right [] b is lawful = tt
  all_right (e ∷ es) b is lawful =
      let goes = moves b e is lawful.0 in
      let then = after wanted b e in (
        is_right then.server b.highest goes.0 then.client.cache goes.1 goes.2.low goes.2.cache,
        all_right es then (beside b e (at_highest then.server b.highest goes.0 then.client then.coming then.to goes.1 goes.2)) lawful.1,
      )
    where
      beside : (b : ClientAndServer) (e : Event) → Follows (after wanted b e).server wanted (highest_with b.highest (after wanted b e).client.cache) (after wanted b e).client (after wanted b e).coming (after wanted b e).to → IsBeside (after wanted b e)
      beside b (requested items to) is = is
      beside b (writes items to) is = is
      beside b (receives n) is = is
      beside b cut is = is
      beside b abandons is = is
      beside b restart is = is
      beside b takes is = is
      beside b (grows later) is = is

  pub run_right : (server : Server) (events : List Event) → AreLawful wanted (start server) events → CachesMatch wanted (start server) events
  run_right server events lawful = all_right events (start server) (is_fresh server wanted 0 [] 0 (omega arith)) lawful
