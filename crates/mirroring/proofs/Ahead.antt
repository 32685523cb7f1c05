-- Notices that wait already stay ahead of those that an item brings, and change nothing else.
use Rattle.std.proofs.Common.{◌≡◌, ℕ, Bool, true, false, cond, ◌&&◌, List, [], ◌∷◌, ◌++◌, Option, Some, None, refl, sym, ap, ◌∙◌, append_assoc, append-nil}
use Rattle.std.specs.Prelude.{nat_eq, nat_lt, nat_le}
use Rattle.std.specs.FinMap as fin
use Rattle.indexer.specs.Objects.{place_cmp, Stored}
use Rattle.wireclient.specs.Reply.{ReplyItem}
use Rattle.decoder.specs.Wanted.{Wanted}
use Rattle.decoder.specs.Pages.{Page}
use Rattle.decoder.specs.Lines.{Line, put, deleted, bookmark, error}
use Rattle.reflector.specs.Client.{by_place, place_in, max_objects, Notice, Cache, SyncPhase, first, next, streaming, Client, kept, notice_of, differences}
use Rattle.reflector.specs.Items.{Response, begun, page, line, over, unexpected, said_of_list, said_of_watch}
use Rattle.reflector.specs.Run.{relisting, closed, after_cut, ascends_within_limit, moved, keep_paged, with_line, with_list, with_next, with_page, with_watch, with_item, receives, receives_all, taken}
use Rattle.reflector.specs.RelistReasons.{relist_reason_after, relist_reason_with}
use Rattle.reflector.specs.declared.relist_reason.RelistReason.{RelistReason}

abbrev pub ahead : List Notice → Client → Client
ahead ns c = record { cache = c.cache; sync = c.sync; is_awaiting_reply = c.is_awaiting_reply; notices = ns ++ c.notices }

abbrev pub if_awaiting_reply : Bool → Client → Client
if_awaiting_reply b c = cond b (record { cache = c.cache; sync = after_cut c.sync; is_awaiting_reply = false; notices = c.notices }) c

pub all_taken : (c : Client) → ahead c.notices (taken c) ≡ c
all_taken c = ap (λ (w : List Notice). record { cache = c.cache; sync = c.sync; is_awaiting_reply = c.is_awaiting_reply; notices = w }) (append-nil c.notices)

pub received_then : (wanted : Wanted) (c : Client) (xs ys : List ReplyItem) → receives_all wanted c (xs ++ ys) ≡ receives_all wanted (receives_all wanted c xs) ys
received_then wanted c [] ys = refl
received_then wanted c (x ∷ xs) ys = received_then wanted (receives wanted c x) xs ys

module _ (ns : List Notice) where
  more_ahead : (c : Client) (cache : Option Cache) (asks : SyncPhase) (b : Bool) (more : List Notice)
      → record { cache = cache; sync = asks; is_awaiting_reply = b; notices = (ns ++ c.notices) ++ more } ≡ ahead ns (record { cache = cache; sync = asks; is_awaiting_reply = b; notices = c.notices ++ more })
  more_ahead c cache asks b more = ap (λ (w : List Notice). record { cache = cache; sync = asks; is_awaiting_reply = b; notices = w }) (append_assoc ns c.notices more)

  checked_ahead : (b : Bool) (c good late : Client) → late ≡ ahead ns good → cond b late (relisting (ahead ns c)) ≡ ahead ns (cond b good (relisting c))
  checked_ahead true c good late is = is
  checked_ahead false c good late is = refl

  line_ahead : (c : Client) (now : Cache) (l : Line) → with_line (ahead ns c) now l ≡ ahead ns (with_line c now l)
  line_ahead c now (put o) =
      let objects = fin.insert now.objects (place_in o) o in
      let more = notice_of (fin.get now.objects (place_in o)) (Some o) in
      checked_ahead (nat_lt now.revision o.revision && nat_le (fin.len objects) max_objects) c (moved c o.revision objects more) (moved (ahead ns c) o.revision objects more)
      (more_ahead c (Some (record { revision = o.revision; objects = objects })) streaming true more)
  line_ahead c now (deleted o) =
      let objects = fin.remove now.objects (place_in o) in
      let more = notice_of (fin.get now.objects (place_in o)) None in
      checked_ahead (nat_lt now.revision o.revision) c (moved c o.revision objects more) (moved (ahead ns c) o.revision objects more)
      (more_ahead c (Some (record { revision = o.revision; objects = objects })) streaming true more)
  line_ahead c now (bookmark r) =
      checked_ahead (nat_le now.revision r) c (moved c r now.objects []) (moved (ahead ns c) r now.objects [])
      (more_ahead c (Some (record { revision = r; objects = now.objects })) streaming true [])
  line_ahead c now error = refl

  part_ahead : (c : Client) (r : ℕ) (all : List Stored) (token : Option (List ℕ)) → keep_paged (ahead ns c) r all token ≡ ahead ns (keep_paged c r all token)
  part_ahead c r all (Some token) = refl
  part_ahead c r all None =
      let objects = fin.from_sorted {R = place_cmp} (by_place all) in
      more_ahead c (Some (record { revision = r; objects = objects })) streaming false (differences (kept c.cache) objects)

  page_ahead : (c : Client) (paged_list : List Stored) (p : Page) → with_page (ahead ns c) paged_list p ≡ ahead ns (with_page c paged_list p)
  page_ahead c paged_list p =
      let all = paged_list ++ p.objects in
      checked_ahead (ascends_within_limit all) c (keep_paged c p.revision all p.token) (keep_paged (ahead ns c) p.revision all p.token) (part_ahead c p.revision all p.token)

  list_ahead : (c : Client) (late with_it : Page → Client) (response : Response) → ((p : Page) → late p ≡ ahead ns (with_it p)) → with_list (ahead ns c) late response ≡ ahead ns (with_list c with_it response)
  list_ahead c late with_it begun is = refl
  list_ahead c late with_it (page p) is = is p
  list_ahead c late with_it (line l) is = refl
  list_ahead c late with_it over is = refl
  list_ahead c late with_it unexpected is = refl

  watch_ahead : (c : Client) (now : Option Cache) (response : Response) → with_watch (ahead ns c) now response ≡ ahead ns (with_watch c now response)
  watch_ahead c None begun = refl
  watch_ahead c (Some now) begun = refl
  watch_ahead c None (page p) = refl
  watch_ahead c (Some now) (page p) = refl
  watch_ahead c None (line l) = refl
  watch_ahead c (Some now) (line l) = line_ahead c now l
  watch_ahead c None over = refl
  watch_ahead c (Some now) over = refl
  watch_ahead c None unexpected = refl
  watch_ahead c (Some now) unexpected = refl

  item_ahead : (wanted : Wanted) (c : Client) (asks : SyncPhase) (x : ReplyItem) → with_item wanted (ahead ns c) asks x ≡ ahead ns (with_item wanted c asks x)
  item_ahead wanted c first x = list_ahead c (with_page (ahead ns c) []) (with_page c []) (said_of_list wanted x) (page_ahead c [])
  item_ahead wanted c (next r token paged_list) x =
      list_ahead c (with_next (ahead ns c) r paged_list) (with_next c r paged_list) (said_of_list wanted x)
      (λ p. checked_ahead (nat_eq p.revision r) c (with_page c paged_list p) (with_page (ahead ns c) paged_list p) (page_ahead c paged_list p))
  item_ahead wanted c streaming x = watch_ahead c c.cache (said_of_watch wanted x)

  receives_ahead : (wanted : Wanted) (c : Client) (x : ReplyItem) → receives wanted (ahead ns c) x ≡ ahead ns (receives wanted c x)
  receives_ahead wanted c x = go c.is_awaiting_reply
    where
      go : (b : Bool) → cond b (with_item wanted (ahead ns c) c.sync x) (ahead ns c) ≡ ahead ns (cond b (with_item wanted c c.sync x) c)
      go true = item_ahead wanted c c.sync x
      go false = refl

  pub all_ahead : (wanted : Wanted) (c : Client) (xs : List ReplyItem) → receives_all wanted (ahead ns c) xs ≡ ahead ns (receives_all wanted c xs)
  all_ahead wanted c [] = refl
  all_ahead wanted c (x ∷ xs) = ap (λ (d : Client). receives_all wanted d xs) (receives_ahead wanted c x) ∙ all_ahead wanted (receives wanted c x) xs

  pub relist_reason_ahead : (wanted : Wanted) (c : Client) (t : Option RelistReason) (xs : List ReplyItem) → relist_reason_after wanted (ahead ns c) t xs ≡ relist_reason_after wanted c t xs
  relist_reason_ahead wanted c t [] = refl
  relist_reason_ahead wanted c t (x ∷ xs) =
      ap (λ (d : Client). relist_reason_after wanted d (relist_reason_with wanted c t x) xs) (receives_ahead wanted c x) ∙ relist_reason_ahead wanted (receives wanted c x) (relist_reason_with wanted c t x) xs

  pub closed_ahead : (c : Client) → closed (ahead ns c) ≡ ahead ns (closed c)
  closed_ahead c = go c.is_awaiting_reply
    where
      go : (b : Bool) → if_awaiting_reply b (ahead ns c) ≡ ahead ns (if_awaiting_reply b c)
      go true = refl
      go false = refl

-- waiting notices change no trouble
pub relist_reason_taken : (wanted : Wanted) (c : Client) (t : Option RelistReason) (xs : List ReplyItem) → relist_reason_after wanted (taken c) t xs ≡ relist_reason_after wanted c t xs
relist_reason_taken wanted c t xs = sym (relist_reason_ahead c.notices wanted (taken c) t xs) ∙ ap (λ (d : Client). relist_reason_after wanted d t xs) (all_taken c)

-- ---- the end of a connection

pub closed_taken : (c : Client) → closed (taken c) ≡ taken (closed c)
closed_taken c = go c.is_awaiting_reply
  where
    go : (b : Bool) → if_awaiting_reply b (taken c) ≡ taken (if_awaiting_reply b c)
    go true = refl
    go false = refl

-- nothing is asked then, and what is kept and waits stays
pub closed_keeps : (c : Client) → ((closed c).is_awaiting_reply ≡ false) × ((closed c).cache ≡ c.cache) × ((closed c).notices ≡ c.notices)
closed_keeps c = go c.is_awaiting_reply refl
  where
    go : (b : Bool) → c.is_awaiting_reply ≡ b → ((if_awaiting_reply b c).is_awaiting_reply ≡ false) × ((if_awaiting_reply b c).cache ≡ c.cache) × ((if_awaiting_reply b c).notices ≡ c.notices)
    go true is = (refl, refl, refl)
    go false is = (is, refl, refl)
