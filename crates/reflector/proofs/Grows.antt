-- A server that has changed since, and items behind others.
use Rattle.std.proofs.Common.{◌≡◌, ℕ, ◌<◌, ◌≤◌, List, [], ◌∷◌, ◌++◌, sym, ap, ◌∙◌, Option, Some, None, arith}
use Rattle.std.specs.FinMap as fin
use Rattle.indexer.specs.Objects.{Stored}
use Rattle.wireclient.specs.Reply.{ReplyItem}
use Rattle.decoder.specs.Wanted.{Wanted}
use Rattle.decoder.specs.Lines.{Line, put, deleted, bookmark, error}
use Rattle.reflector.specs.Client.{place_in, Cache, SyncPhase, first, next, streaming, Client}
use Rattle.reflector.specs.Items.{Response, begun, page, line, over, unexpected, said_of_list, said_of_watch}
use Rattle.reflector.specs.FollowsLaws.{Server, IsCacheOf, IsPart, IsSyncSound, IsListStep, IsListReply, IsLineStep, IsWatchStep, IsWatchReply, IsReplyTo, Follows, IsLater}

module _ (server later : Server) (wanted : Wanted) (is_later : IsLater server later) where
  part_later : (r : ℕ) (objects : List Stored) (token : Option (List ℕ)) → r ≤ server.top → IsPart server r objects token → IsPart later r objects token
  part_later r objects None h is = ap fin.entries (is_later.same r h) ∙ is
  part_later r objects (Some token) h is = (is.0, ap fin.entries (is_later.same r h) ∙ is.1, is_later.tokens r objects token h ∙ is.2)

  list_later : (m : ℕ) (paged_list : List Stored) (response : Response) (before after : Type 0) → (before → after) → IsListStep server m paged_list response before → IsListStep later m paged_list response after
  list_later m paged_list begun before after f is = f is
  list_later m paged_list (page p) before after f is =
      let a : p.revision ≤ server.top = is.1 in
      let b : server.top ≤ later.top = is_later.higher in
      (is.0, omega arith, part_later p.revision (paged_list ++ p.objects) p.token a is.2)
  list_later m paged_list (line l) before after f is = tt
  list_later m paged_list over before after f is = tt
  list_later m paged_list unexpected before after f is = tt

  lists_later : (m : ℕ) (paged_list : List Stored) (xs : List ReplyItem) → IsListReply server wanted m paged_list xs → IsListReply later wanted m paged_list xs
  lists_later m paged_list [] is = tt
  lists_later m paged_list (x ∷ xs) is = list_later m paged_list (said_of_list wanted x) (IsListReply server wanted m paged_list xs) (IsListReply later wanted m paged_list xs) (lists_later m paged_list xs) is

  line_later : (r : ℕ) (l : Line) (before after : ℕ → Type 0) → r ≤ server.top → ((q : ℕ) → q ≤ server.top → before q → after q) → IsLineStep server r l before → IsLineStep later r l after
  line_later r (put o) before after h f is =
      let a : o.revision ≤ server.top = is.1 in
      let b : server.top ≤ later.top = is_later.higher in
      (is.0, omega arith, ap (λ s. fin.insert s (place_in o) o) (is_later.same r h) ∙ is.2 ∙ sym (is_later.same o.revision a), f o.revision a is.3)
  line_later r (deleted o) before after h f is =
      let a : o.revision ≤ server.top = is.1 in
      let b : server.top ≤ later.top = is_later.higher in
      (is.0, omega arith, ap (λ s. fin.remove s (place_in o)) (is_later.same r h) ∙ is.2 ∙ sym (is_later.same o.revision a), f o.revision a is.3)
  line_later r (bookmark q) before after h f is =
      let a : q ≤ server.top = is.1 in
      let b : server.top ≤ later.top = is_later.higher in
      (is.0, omega arith, is_later.same r h ∙ is.2 ∙ sym (is_later.same q a), f q a is.3)
  line_later r error before after h f is = tt

  response_later : (r : ℕ) (response : Response) (before after : ℕ → Type 0) → r ≤ server.top → ((q : ℕ) → q ≤ server.top → before q → after q) → IsWatchStep server r response before → IsWatchStep later r response after
  response_later r begun before after h f is = f r h is
  response_later r (page p) before after h f is = tt
  response_later r (line l) before after h f is = line_later r l before after h f is
  response_later r over before after h f is = tt
  response_later r unexpected before after h f is = tt

  watches_later : (r : ℕ) (xs : List ReplyItem) (p : ℕ) → r ≤ server.top → IsWatchReply server wanted r xs p → IsWatchReply later wanted r xs p
  watches_later r [] p h is =
      let a : p ≤ server.top = is.1 in
      let b : server.top ≤ later.top = is_later.higher in
      (is.0, omega arith, is_later.same r h ∙ is.2 ∙ sym (is_later.same p a))
  watches_later r (x ∷ xs) p h is =
      response_later r (said_of_watch wanted x) (λ q. IsWatchReply server wanted q xs p) (λ q. IsWatchReply later wanted q xs p) h (λ q k. watches_later q xs p k) is

  comes_later : (m : ℕ) (sync : SyncPhase) (cache : Option Cache) (xs : List ReplyItem) (p : ℕ) → m ≤ server.top → IsCacheOf server m cache → IsReplyTo server wanted m sync cache xs p → IsReplyTo later wanted m sync cache xs p
  comes_later m first cache xs p h held is = lists_later m [] xs is
  comes_later m (next r token paged_list) cache xs p h held is = lists_later m paged_list xs is
  comes_later m streaming None xs p h held is = tt
  comes_later m streaming (Some now) xs p h held is = let a : now.revision ≡ m = held.0 in watches_later now.revision xs p (omega arith) is

  cache_later : (m : ℕ) (cache : Option Cache) → m ≤ server.top → IsCacheOf server m cache → IsCacheOf later m cache
  cache_later m None h is = tt
  cache_later m (Some now) h is = let a : now.revision ≡ m = is.0 in (a, is.1 ∙ sym (is_later.same now.revision (omega arith)))

  sync_later : (m : ℕ) (sync : SyncPhase) (cache : Option Cache) → IsSyncSound server m sync cache → IsSyncSound later m sync cache
  sync_later m first cache is = tt
  sync_later m (next r token paged_list) cache is =
      let a : r ≤ server.top = is.1 in
      let b : server.top ≤ later.top = is_later.higher in
      (is.0, omega arith, part_later r paged_list (Some token) a is.2)
  sync_later m streaming cache is = is

  pub follows_later : (m : ℕ) (c : Client) (xs : List ReplyItem) (p : ℕ) → Follows server wanted m c xs p → Follows later wanted m c xs p
  follows_later m c xs p is =
      let a : m ≤ server.top = is.low in
      let b : server.top ≤ later.top = is_later.higher in
      record {
        low = omega arith;
        cache = cache_later m c.cache is.low is.cache;
        sync = sync_later m c.sync c.cache is.sync;
        coming = λ e. comes_later m c.sync c.cache xs p is.low is.cache (is.coming e);
      }

module _ (server : Server) (wanted : Wanted) where
  line_from : (r q : ℕ) (l : Line) (others : ℕ → Type 0) → r ≤ q → server.at r ≡ server.at q → IsLineStep server q l others → IsLineStep server r l others
  line_from r q (put o) others h same is = let a : q < o.revision = is.0 in (omega arith, is.1, ap (λ s. fin.insert s (place_in o) o) same ∙ is.2, is.3)
  line_from r q (deleted o) others h same is = let a : q < o.revision = is.0 in (omega arith, is.1, ap (λ s. fin.remove s (place_in o)) same ∙ is.2, is.3)
  line_from r q (bookmark b) others h same is = let a : q ≤ b = is.0 in (omega arith, is.1, same ∙ is.2, is.3)
  line_from r q error others h same is = tt

  response_from : (r q : ℕ) (response : Response) (others : ℕ → Type 0) → r ≤ q → server.at r ≡ server.at q → (others q → others r) → IsWatchStep server q response others → IsWatchStep server r response others
  response_from r q begun others h same f is = f is
  response_from r q (page p) others h same f is = tt
  response_from r q (line l) others h same f is = line_from r q l others h same is
  response_from r q over others h same f is = tt
  response_from r q unexpected others h same f is = tt

  -- from a revision of the same objects, not above
  watches_from : (r q : ℕ) (xs : List ReplyItem) (p : ℕ) → r ≤ q → server.at r ≡ server.at q → IsWatchReply server wanted q xs p → IsWatchReply server wanted r xs p
  watches_from r q [] p h same is = let a : q ≤ p = is.0 in (omega arith, is.1, same ∙ is.2)
  watches_from r q (x ∷ xs) p h same is = response_from r q (said_of_watch wanted x) (λ z. IsWatchReply server wanted z xs p) h same (watches_from r q xs p h same) is

  line_more : (r : ℕ) (l : Line) (before after : ℕ → Type 0) → ((q : ℕ) → before q → after q) → IsLineStep server r l before → IsLineStep server r l after
  line_more r (put o) before after f is = (is.0, is.1, is.2, f o.revision is.3)
  line_more r (deleted o) before after f is = (is.0, is.1, is.2, f o.revision is.3)
  line_more r (bookmark q) before after f is = (is.0, is.1, is.2, f q is.3)
  line_more r error before after f is = tt

  response_more : (r : ℕ) (response : Response) (before after : ℕ → Type 0) → ((q : ℕ) → before q → after q) → IsWatchStep server r response before → IsWatchStep server r response after
  response_more r begun before after f is = f r is
  response_more r (page p) before after f is = tt
  response_more r (line l) before after f is = line_more r l before after f is
  response_more r over before after f is = tt
  response_more r unexpected before after f is = tt

  pub watches-append : (r p q : ℕ) (xs ys : List ReplyItem) → IsWatchReply server wanted r xs p → IsWatchReply server wanted p ys q → IsWatchReply server wanted r (xs ++ ys) q
  watches-append r p q [] ys is more = watches_from r p ys q is.0 is.2 more
  watches-append r p q (x ∷ xs) ys is more =
      response_more r (said_of_watch wanted x) (λ z. IsWatchReply server wanted z xs p) (λ z. IsWatchReply server wanted z (xs ++ ys) q) (λ z others. watches-append z p q xs ys others more) is
