-- Each item that a server tells leaves the client with the server's objects.
use Rattle.std.proofs.Common.{◌≡◌, ℕ, ◌<◌, ◌≤◌, Bool, true, false, cond, ◌&&◌, T, List, [], ◌∷◌, ◌++◌, refl, sym, ap, subst, ◌∙◌, Option, Some, None, is_some, arith, true≢false}
use Rattle.std.specs.Prelude.{nat_lt, nat_le, nat_eq}
use Rattle.std.specs.FinMap as fin
use Rattle.indexer.specs.Objects.{place_cmp, Stored}
use Rattle.wireclient.specs.Reply.{ReplyItem}
use Rattle.decoder.specs.Wanted.{Wanted}
use Rattle.decoder.specs.Pages.{Page}
use Rattle.decoder.specs.Lines.{Line, put, deleted, bookmark, error}
use Rattle.reflector.specs.Client.{Objects, place_in, by_place, max_objects, Cache, SyncPhase, first, next, streaming, Client, fresh, notice_of}
use Rattle.reflector.specs.Items.{Response, begun, page, line, over, unexpected, said_of_list, said_of_watch}
use Rattle.reflector.specs.Run.{relisting, keep_paged, ascends_within_limit, with_page, moved, with_line, with_list, with_next, with_watch, with_item, receives, receives_all, asked, after_cut, closed, taken}
use Rattle.reflector.specs.FollowsLaws.{Server, IsCacheOf, IsPart, IsSyncSound, IsListStep, IsListReply, IsLineStep, IsWatchStep, IsWatchReply, IsReplyTo, Follows, FollowsFrom}

-- all pages together are the map
pub all_of : (o : Objects) (all : List Stored) → fin.entries o ≡ by_place all → fin.from_sorted {R = place_cmp} (by_place all) ≡ o
all_of o all is = fin.same_entries_map _ _ (fin.entries-from_sorted place_cmp (by_place all) (subst (λ xs. T (fin.is_sorted place_cmp xs)) is (fin.entries_sorted o)) ∙ sym is)

module _ (server : Server) (wanted : Wanted) where
  pub given_up : (m : ℕ) (c : Client) (xs : List ReplyItem) (p : ℕ) → m ≤ server.top → IsCacheOf server m c.cache → Follows server wanted m (relisting c) xs p
  given_up m c xs p low cached = record { low = low; cache = cached; sync = tt; coming = λ is. absurd (true≢false (sym is)) }

  is_again : (m : ℕ) (c : Client) (xs : List ReplyItem) (p : ℕ) → m ≤ server.top → IsCacheOf server m c.cache → FollowsFrom server wanted m (relisting c) xs p
  is_again m c xs p low cached = (m, omega arith, given_up m c xs p low cached)

  -- what passes a check goes on, and what fails begins again
  checks : (m : ℕ) (b : Bool) (c good : Client) (xs : List ReplyItem) (p : ℕ) → m ≤ server.top → IsCacheOf server m c.cache → FollowsFrom server wanted m good xs p → FollowsFrom server wanted m (cond b good (relisting c)) xs p
  checks m true c good xs p low cached is = is
  checks m false c good xs p low cached is = is_again m c xs p low cached

  -- ---- lists

  part_taken : (m : ℕ) (c : Client) (r : ℕ) (all : List Stored) (token : Option (List ℕ)) (xs : List ReplyItem) (p : ℕ) → m ≤ server.top → IsCacheOf server m c.cache
      → m ≤ r → r ≤ server.top → IsPart server r all token → FollowsFrom server wanted m (keep_paged c r all token) xs p
  part_taken m c r all None xs p low cached h k is =
      (r, h, record { low = k; cache = (refl, all_of (server.at r) all is); sync = refl; coming = λ e. absurd (true≢false (sym e)) })
  part_taken m c r all (Some token) xs p low cached h k is =
      (m, omega arith, record { low = low; cache = cached; sync = (h, k, is); coming = λ e. absurd (true≢false (sym e)) })

  page_taken : (m : ℕ) (c : Client) (paged_list : List Stored) (d : Page) (xs : List ReplyItem) (p : ℕ) → m ≤ server.top → IsCacheOf server m c.cache
      → m ≤ d.revision → d.revision ≤ server.top → IsPart server d.revision (paged_list ++ d.objects) d.token → FollowsFrom server wanted m (with_page c paged_list d) xs p
  page_taken m c paged_list d xs p low cached h k is =
      checks m (ascends_within_limit (paged_list ++ d.objects)) c (keep_paged c d.revision (paged_list ++ d.objects) d.token) xs p low cached (part_taken m c d.revision (paged_list ++ d.objects) d.token xs p low cached h k is)

  list_response : (m : ℕ) (c : Client) (paged_list : List Stored) (with_it : Page → Client) (response : Response) (xs : List ReplyItem) (p : ℕ) → m ≤ server.top → IsCacheOf server m c.cache
      → ((d : Page) → m ≤ d.revision → d.revision ≤ server.top → IsPart server d.revision (paged_list ++ d.objects) d.token → FollowsFrom server wanted m (with_it d) xs p)
      → (IsListReply server wanted m paged_list xs → FollowsFrom server wanted m c xs p)
      → IsListStep server m paged_list response (IsListReply server wanted m paged_list xs) → FollowsFrom server wanted m (with_list c with_it response) xs p
  list_response m c paged_list with_it begun xs p low cached on_page stays is = stays is
  list_response m c paged_list with_it (page d) xs p low cached on_page stays is = on_page d is.0 is.1 is.2
  list_response m c paged_list with_it (line l) xs p low cached on_page stays is = is_again m c xs p low cached
  list_response m c paged_list with_it over xs p low cached on_page stays is = is_again m c xs p low cached
  list_response m c paged_list with_it unexpected xs p low cached on_page stays is = is_again m c xs p low cached

  -- ---- watches

  line_taken : (m : ℕ) (c : Client) (now : Cache) (l : Line) (xs : List ReplyItem) (p : ℕ) → m ≤ server.top → IsCacheOf server m c.cache → IsCacheOf server m (Some now)
      → IsLineStep server now.revision l (λ q. IsWatchReply server wanted q xs p) → FollowsFrom server wanted m (with_line c now l) xs p
  line_taken m c now (put o) xs p low cached held is =
      let a : now.revision ≡ m = held.0 in
      let b : now.revision < o.revision = is.0 in
      checks m (nat_lt now.revision o.revision && nat_le (fin.len (fin.insert now.objects (place_in o) o)) max_objects) c
      (moved c o.revision (fin.insert now.objects (place_in o) o) (notice_of (fin.get now.objects (place_in o)) (Some o))) xs p low cached
      (o.revision, omega arith, record { low = is.1; cache = (refl, ap (λ s. fin.insert s (place_in o) o) held.1 ∙ is.2); sync = refl; coming = λ _. is.3 })
  line_taken m c now (deleted o) xs p low cached held is =
      let a : now.revision ≡ m = held.0 in
      let b : now.revision < o.revision = is.0 in
      checks m (nat_lt now.revision o.revision) c (moved c o.revision (fin.remove now.objects (place_in o)) (notice_of (fin.get now.objects (place_in o)) None)) xs p low cached
      (o.revision, omega arith, record { low = is.1; cache = (refl, ap (λ s. fin.remove s (place_in o)) held.1 ∙ is.2); sync = refl; coming = λ _. is.3 })
  line_taken m c now (bookmark q) xs p low cached held is =
      let a : now.revision ≡ m = held.0 in
      let b : now.revision ≤ q = is.0 in
      checks m (nat_le now.revision q) c (moved c q now.objects []) xs p low cached
      (q, omega arith, record { low = is.1; cache = (refl, held.1 ∙ is.2); sync = refl; coming = λ _. is.3 })
  line_taken m c now error xs p low cached held is = is_again m c xs p low cached

  watch_response : (m : ℕ) (c : Client) (now : Cache) (response : Response) (xs : List ReplyItem) (p : ℕ) → m ≤ server.top → IsCacheOf server m c.cache → is_some c.cache ≡ true → IsCacheOf server m (Some now)
      → (IsWatchReply server wanted now.revision xs p → FollowsFrom server wanted m c xs p)
      → IsWatchStep server now.revision response (λ q. IsWatchReply server wanted q xs p) → FollowsFrom server wanted m (with_watch c (Some now) response) xs p
  watch_response m c now begun xs p low cached has held stays is = stays is
  watch_response m c now (page d) xs p low cached has held stays is = is_again m c xs p low cached
  watch_response m c now (line l) xs p low cached has held stays is = line_taken m c now l xs p low cached held is
  watch_response m c now over xs p low cached has held stays is = (m, omega arith, record { low = low; cache = cached; sync = has; coming = λ e. absurd (true≢false (sym e)) })
  watch_response m c now unexpected xs p low cached has held stays is = is_again m c xs p low cached

  watch_item : (m : ℕ) (c : Client) (cache : Option Cache) (x : ReplyItem) (xs : List ReplyItem) (p : ℕ) → m ≤ server.top → IsCacheOf server m c.cache → is_some c.cache ≡ true → is_some cache ≡ true → IsCacheOf server m cache
      → (IsReplyTo server wanted m streaming cache xs p → FollowsFrom server wanted m c xs p)
      → IsReplyTo server wanted m streaming cache (x ∷ xs) p → FollowsFrom server wanted m (with_watch c cache (said_of_watch wanted x)) xs p
  watch_item m c None x xs p low cached has some held stays is = absurd (true≢false (sym some))
  watch_item m c (Some now) x xs p low cached has some held stays is = watch_response m c now (said_of_watch wanted x) xs p low cached has held stays is

  -- ---- items

  item_taken : (m : ℕ) (c : Client) (sync : SyncPhase) (x : ReplyItem) (xs : List ReplyItem) (p : ℕ) → m ≤ server.top → IsCacheOf server m c.cache → IsSyncSound server m sync c.cache
      → (IsReplyTo server wanted m sync c.cache xs p → FollowsFrom server wanted m c xs p)
      → IsReplyTo server wanted m sync c.cache (x ∷ xs) p → FollowsFrom server wanted m (with_item wanted c sync x) xs p
  item_taken m c first x xs p low cached is_asked stays is =
      list_response m c [] (with_page c []) (said_of_list wanted x) xs p low cached (λ d h k part. page_taken m c [] d xs p low cached h k part) stays is
  item_taken m c (next r token paged_list) x xs p low cached is_asked stays is =
      list_response m c paged_list (with_next c r paged_list) (said_of_list wanted x) xs p low cached
      (λ d h k part. checks m (nat_eq d.revision r) c (with_page c paged_list d) xs p low cached (page_taken m c paged_list d xs p low cached h k part)) stays is
  item_taken m c streaming x xs p low cached is_asked stays is = watch_item m c c.cache x xs p low cached is_asked is_asked cached stays is

  item_received : (m : ℕ) (c : Client) (x : ReplyItem) (xs : List ReplyItem) (p : ℕ) → Follows server wanted m c (x ∷ xs) p → FollowsFrom server wanted m (receives wanted c x) xs p
  item_received m c x xs p is = go c.is_awaiting_reply refl
    where
      go : (b : Bool) → c.is_awaiting_reply ≡ b → FollowsFrom server wanted m (cond b (with_item wanted c c.sync x) c) xs p
      go true e =
          item_taken m c c.sync x xs p is.low is.cache is.sync (λ comes. (m, omega arith, record { low = is.low; cache = is.cache; sync = is.sync; coming = λ _. comes })) (is.coming e)
      go false e = (m, omega arith, record { low = is.low; cache = is.cache; sync = is.sync; coming = λ f. absurd (true≢false (sym f ∙ e)) })

  pub items_received : (m : ℕ) (c : Client) (xs ys : List ReplyItem) (p : ℕ) → Follows server wanted m c (xs ++ ys) p → FollowsFrom server wanted m (receives_all wanted c xs) ys p
  items_received m c [] ys p is = (m, omega arith, is)
  items_received m c (x ∷ xs) ys p is =
      let one : FollowsFrom server wanted m (receives wanted c x) (xs ++ ys) p = item_received m c x (xs ++ ys) p is in
      let others : FollowsFrom server wanted one.0 (receives_all wanted (receives wanted c x) xs) ys p = items_received one.0 (receives wanted c x) xs ys p one.2 in
      let a : m ≤ one.0 = one.1 in
      let b : one.0 ≤ others.0 = others.1 in
      (others.0, omega arith, others.2)

  -- ---- the other events

  pub is_asked : (m : ℕ) (c : Client) (xs ys : List ReplyItem) (p q : ℕ) → Follows server wanted m c xs p → IsReplyTo server wanted m c.sync c.cache ys q → Follows server wanted m (asked c) ys q
  is_asked m c xs ys p q is comes = record { low = is.low; cache = is.cache; sync = is.sync; coming = λ _. comes }

  cut_sync : (m : ℕ) (sync : SyncPhase) (cache : Option Cache) → IsSyncSound server m sync cache → IsSyncSound server m (after_cut sync) cache
  cut_sync m first cache is = tt
  cut_sync m (next r token paged_list) cache is = tt
  cut_sync m streaming cache is = is

  pub is_closed : (m : ℕ) (c : Client) (xs ys : List ReplyItem) (p q : ℕ) → Follows server wanted m c xs p → Follows server wanted m (closed c) ys q
  is_closed m c xs ys p q is = go c.is_awaiting_reply refl
    where
      go : (b : Bool) → c.is_awaiting_reply ≡ b → Follows server wanted m (cond b (record { cache = c.cache; sync = after_cut c.sync; is_awaiting_reply = false; notices = c.notices }) c) ys q
      go true e = record { low = is.low; cache = is.cache; sync = cut_sync m c.sync c.cache is.sync; coming = λ f. absurd (true≢false (sym f)) }
      go false e = record { low = is.low; cache = is.cache; sync = is.sync; coming = λ f. absurd (true≢false (sym f ∙ e)) }

  pub is_fresh : (m : ℕ) (ys : List ReplyItem) (q : ℕ) → m ≤ server.top → Follows server wanted m fresh ys q
  is_fresh m ys q low = record { low = low; cache = tt; sync = tt; coming = λ f. absurd (true≢false (sym f)) }

  pub is_taken : (m : ℕ) (c : Client) (xs : List ReplyItem) (p : ℕ) → Follows server wanted m c xs p → Follows server wanted m (taken c) xs p
  is_taken m c xs p is = record { low = is.low; cache = is.cache; sync = is.sync; coming = is.coming }
