-- Notices replayed on the objects before them are the objects after them, and their old sides are what stood there.
use Rattle.std.proofs.Common.{◌≡◌, ℕ, Bool, true, false, cond, ◌&&◌, T, List, [], ◌∷◌, ◌++◌, refl, sym, ap, subst, ◌∙◌, Option, Some, None, append_assoc, append-nil}
use Rattle.std.specs.Prelude.{nat_lt, nat_le, nat_eq, ◌==◌, ⊤}
use Rattle.std.specs.FinMap as fin
use Rattle.std.specs.Str.{bytes_eq}
use Rattle.std.specs.declared.result.Result.TheVariants.{Ok, Err}
use Rattle.indexer.specs.Objects.{Place, place_cmp, Stored}
use Rattle.wireclient.specs.Reply as reply
use Rattle.wireclient.specs.Reply.{ReplyItem}
use Rattle.decoder.specs.Lines as lines
use Rattle.decoder.specs.Lines.{Line, put, error, line_in}
use Rattle.decoder.specs.Members.{Read}
use Rattle.decoder.specs.OwnTexts.{AreTheirTexts, ShowsItsText}
use Rattle.decoder.specs.Pages.{Page, page_in}
use Rattle.decoder.specs.Wanted.{Wanted}
use Rattle.decoder.proofs.OwnTexts.{page_texts, line_texts}
use Rattle.reflector.specs.Client.{Objects, place_in, by_place, max_objects, Notice, updated, Cache, SyncPhase, first, next, streaming, Client, fresh, kept, notice_of, differences}
use Rattle.reflector.specs.Items.{Response, begun, page, line, over, unexpected, page_or_unexpected, line_or_unexpected, said_of_list, said_of_watch}
use Rattle.reflector.specs.Run.{relisting, after_cut, closed, keep_paged, ascends_within_limit, with_page, moved, with_line, with_list, with_next, with_watch, with_item, receives, receives_all}
use Rattle.reflector.specs.ReplayLaws.{replayed, AreUnderKey, OldSidesMatch, MatchTheirTexts, paged_list_in, AllMatchTheirTexts, NotifiesSince, LeadFrom}
use Rattle.reflector.proofs.Olds.{old-append, differences_old, under_key, same_objects, empty_read, insert_read, remove_read, notice_read, differences_read, list_read, texts-append}
use Rattle.reflector.proofs.Replays.{replayed-append, put_replays, remove_replays, differences_replay}

-- ---- one line

put_old : (o : Objects) (s : Stored) → OldSidesMatch o (notice_of (fin.get o (place_in s)) (Some s))
put_old o s = go (fin.get o (place_in s)) refl
  where
    changed : (was : Stored) → fin.get o (place_in s) ≡ Some was → (t : Bool) → OldSidesMatch o (cond t [] (updated was s ∷ []))
    changed was is true = tt
    changed was is false = (is, tt)

    go : (x : Option Stored) → fin.get o (place_in s) ≡ x → OldSidesMatch o (notice_of x (Some s))
    go None is = (is, tt)
    go (Some was) is = changed was is (bytes_eq was.text s.text)

remove_old : (o : Objects) (p : Place) → AreUnderKey o → OldSidesMatch o (notice_of (fin.get o p) None)
remove_old o p there = go (fin.get o p) refl
  where
    go : (x : Option Stored) → fin.get o p ≡ x → OldSidesMatch o (notice_of x None)
    go None is = tt
    go (Some was) is = (ap (fin.get o) (there p was is) ∙ is, tt)

abbrev if_awaiting_reply : Bool → Client → Client
if_awaiting_reply b c = cond b (record { cache = c.cache; sync = after_cut c.sync; is_awaiting_reply = false; notices = c.notices }) c

module _ (wanted : Wanted) where
  -- ---- what an item says was read

  abbrev ResponseIsRead : Response → Type 0
  ResponseIsRead begun = ⊤
  ResponseIsRead (page p) = AreTheirTexts wanted p.objects
  ResponseIsRead (line l) = ShowsItsText wanted l
  ResponseIsRead over = ⊤
  ResponseIsRead unexpected = ⊤

  head_read : (b : Bool) → ResponseIsRead (cond b begun unexpected)
  head_read true = tt
  head_read false = tt

  page_read : (r : Read Page) → ((p : Page) → r ≡ Ok p → AreTheirTexts wanted p.objects) → ResponseIsRead (page_or_unexpected r)
  page_read (Ok p) h = h p refl
  page_read (Err m) h = tt

  line_read : (r : Read Line) → ((l : Line) → r ≡ Ok l → ShowsItsText wanted l) → ResponseIsRead (line_or_unexpected r)
  line_read (Ok l) h = h l refl
  line_read (Err m) h = tt

  list_response_read : (x : ReplyItem) → ResponseIsRead (said_of_list wanted x)
  list_response_read (reply.head status) = head_read (status == 200)
  list_response_read (reply.whole bytes) = page_read (page_in wanted bytes) (λ p is. page_texts wanted bytes p is)
  list_response_read (reply.line bytes) = tt
  list_response_read reply.end = tt
  list_response_read reply.malformed = tt

  watch_response_read : (x : ReplyItem) → ResponseIsRead (said_of_watch wanted x)
  watch_response_read (reply.head status) = head_read (status == 200)
  watch_response_read (reply.whole bytes) = tt
  watch_response_read (reply.line bytes) = line_read (line_in wanted bytes) (λ l is. line_texts wanted bytes l is)
  watch_response_read reply.end = tt
  watch_response_read reply.malformed = tt

  -- ---- steps

  joined : (c d e : Client) → NotifiesSince wanted c d → NotifiesSince wanted d e → NotifiesSince wanted c e
  joined c d e one more =
      record {
        since = one.since ++ more.since;
        waiting = more.waiting ∙ ap (λ ns. ns ++ more.since) one.waiting ∙ append_assoc c.notices one.since more.since;
        replay = replayed-append (kept c.cache) one.since more.since ∙ ap (λ o. replayed o more.since) one.replay ∙ more.replay;
        old = old-append (kept c.cache) one.since more.since one.old (subst (λ o. OldSidesMatch o more.since) (sym one.replay) more.old);
        has_read = more.has_read;
      }

  -- the same cache and notices
  same : (c : Client) (sync : SyncPhase) (b : Bool) → AllMatchTheirTexts wanted c → AreTheirTexts wanted (paged_list_in sync) → NotifiesSince wanted c (record { cache = c.cache; sync = sync; is_awaiting_reply = b; notices = c.notices })
  same c sync b read paged_list = record { since = []; waiting = sym (append-nil c.notices); replay = refl; old = tt; has_read = record { objects = read.objects; paged_list = paged_list } }

  checks : (b : Bool) (c good : Client) → AllMatchTheirTexts wanted c → NotifiesSince wanted c good → NotifiesSince wanted c (cond b good (relisting c))
  checks true c good read is = is
  checks false c good read is = same c first false read tt

  -- other objects, with the notices of them
  moves : (c : Client) (before now : Objects) (sync : SyncPhase) (b : Bool) (revision : ℕ) (ns : List Notice) → kept c.cache ≡ before → replayed before ns ≡ now → OldSidesMatch before ns → MatchTheirTexts wanted now → AreTheirTexts wanted (paged_list_in sync)
      → NotifiesSince wanted c (record { cache = Some (record { revision = revision; objects = now }); sync = sync; is_awaiting_reply = b; notices = c.notices ++ ns })
  moves c before now sync b revision ns is replay old read paged_list = record {
    since = ns;
    waiting = refl;
    replay = ap (λ o. replayed o ns) is ∙ replay;
    old = subst (λ o. OldSidesMatch o ns) (sym is) old;
    has_read = record { objects = read; paged_list = paged_list };
  }

  line_notifies : (c : Client) (now : Cache) (l : Line) → c.cache ≡ Some now → AllMatchTheirTexts wanted c → ShowsItsText wanted l → NotifiesSince wanted c (with_line c now l)
  line_notifies c now (put o) is read own =
      let held : kept c.cache ≡ now.objects = ap kept is in
      let here : MatchTheirTexts wanted now.objects = subst (MatchTheirTexts wanted) held read.objects in
      let was : Option Stored = fin.get now.objects (place_in o) in
      let there : MatchTheirTexts wanted (fin.insert now.objects (place_in o) o) = insert_read wanted now.objects o here own in
      checks (nat_lt now.revision o.revision && nat_le (fin.len (fin.insert now.objects (place_in o) o)) max_objects) c
      (moved c o.revision (fin.insert now.objects (place_in o) o) (notice_of was (Some o))) read
      (moves c now.objects (fin.insert now.objects (place_in o) o) streaming true o.revision (notice_of was (Some o)) held
      (same_objects wanted (replayed now.objects (notice_of was (Some o))) (fin.insert now.objects (place_in o) o) (notice_read wanted now.objects was (Some o) here own) there (put_replays now.objects o))
      (put_old now.objects o) there tt)
  line_notifies c now (lines.deleted o) is read own =
      let held : kept c.cache ≡ now.objects = ap kept is in
      let here : MatchTheirTexts wanted now.objects = subst (MatchTheirTexts wanted) held read.objects in
      let was : Option Stored = fin.get now.objects (place_in o) in
      let there : MatchTheirTexts wanted (fin.remove now.objects (place_in o)) = remove_read wanted now.objects (place_in o) here in
      checks (nat_lt now.revision o.revision) c (moved c o.revision (fin.remove now.objects (place_in o)) (notice_of was None)) read
      (moves c now.objects (fin.remove now.objects (place_in o)) streaming true o.revision (notice_of was None) held
      (same_objects wanted (replayed now.objects (notice_of was None)) (fin.remove now.objects (place_in o)) (notice_read wanted now.objects was None here tt) there (remove_replays now.objects o (under_key wanted now.objects here)))
      (remove_old now.objects (place_in o) (under_key wanted now.objects here)) there tt)
  line_notifies c now (lines.bookmark r) is read own =
      let held : kept c.cache ≡ now.objects = ap kept is in
      checks (nat_le now.revision r) c (moved c r now.objects []) read (moves c now.objects now.objects streaming true r [] held refl tt (subst (MatchTheirTexts wanted) held read.objects) tt)
  line_notifies c now error is read own = same c first false read tt

  part_notifies : (c : Client) (r : ℕ) (all : List Stored) (token : Option (List ℕ)) → ascends_within_limit all ≡ true → AllMatchTheirTexts wanted c → AreTheirTexts wanted all → NotifiesSince wanted c (keep_paged c r all token)
  part_notifies c r all (Some token) fits read own = same c (next r token all) false read own
  part_notifies c r all None fits read own =
      let o : Objects = fin.from_sorted {R = place_cmp} (by_place all) in
      let there : MatchTheirTexts wanted o = list_read wanted all (first_of (fin.is_sorted place_cmp (by_place all)) _ fits) own in
      let here : MatchTheirTexts wanted (kept c.cache) = read.objects in
      let before = under_key wanted (kept c.cache) here in
      let after = under_key wanted o there in
      moves c (kept c.cache) o streaming false r (differences (kept c.cache) o) refl
      (same_objects wanted (replayed (kept c.cache) (differences (kept c.cache) o)) o (differences_read wanted (kept c.cache) o here there) there (differences_replay (kept c.cache) o before after))
      (differences_old (kept c.cache) o before after) there tt
    where
      first_of : (a b : Bool) → (a && b) ≡ true → T a
      first_of true b e = tt
      first_of false b e = absurd cc

  page_notifies : (c : Client) (emitted : List Stored) (p : Page) → AllMatchTheirTexts wanted c → AreTheirTexts wanted emitted → AreTheirTexts wanted p.objects → NotifiesSince wanted c (with_page c emitted p)
  page_notifies c emitted p read paged_list own = go (ascends_within_limit (emitted ++ p.objects)) refl
    where
      go : (b : Bool) → ascends_within_limit (emitted ++ p.objects) ≡ b → NotifiesSince wanted c (cond b (keep_paged c p.revision (emitted ++ p.objects) p.token) (relisting c))
      go true fits = part_notifies c p.revision (emitted ++ p.objects) p.token fits read (texts-append wanted emitted p.objects paged_list own)
      go false fits = same c first false read tt

  list_notifies : (c : Client) (with_it : Page → Client) (response : Response) → ((p : Page) → AreTheirTexts wanted p.objects → NotifiesSince wanted c (with_it p)) → AllMatchTheirTexts wanted c → ResponseIsRead response → NotifiesSince wanted c (with_list c with_it response)
  list_notifies c with_it begun h read own = same c c.sync c.is_awaiting_reply read read.paged_list
  list_notifies c with_it (page p) h read own = h p own
  list_notifies c with_it (line l) h read own = same c first false read tt
  list_notifies c with_it over h read own = same c first false read tt
  list_notifies c with_it unexpected h read own = same c first false read tt

  watch_notifies : (c : Client) (cache : Option Cache) (response : Response) → c.cache ≡ cache → AllMatchTheirTexts wanted c → ResponseIsRead response → NotifiesSince wanted c (with_watch c cache response)
  watch_notifies c None begun is read own = same c c.sync c.is_awaiting_reply read read.paged_list
  watch_notifies c (Some now) begun is read own = same c c.sync c.is_awaiting_reply read read.paged_list
  watch_notifies c None (page p) is read own = same c first false read tt
  watch_notifies c (Some now) (page p) is read own = same c first false read tt
  watch_notifies c None (line l) is read own = same c first false read tt
  watch_notifies c (Some now) (line l) is read own = line_notifies c now l is read own
  watch_notifies c None over is read own = same c streaming false read tt
  watch_notifies c (Some now) over is read own = same c streaming false read tt
  watch_notifies c None unexpected is read own = same c first false read tt
  watch_notifies c (Some now) unexpected is read own = same c first false read tt

  item_notifies : (c : Client) (sync : SyncPhase) (x : ReplyItem) → AllMatchTheirTexts wanted c → AreTheirTexts wanted (paged_list_in sync) → NotifiesSince wanted c (with_item wanted c sync x)
  item_notifies c first x read paged_list = list_notifies c (with_page c []) (said_of_list wanted x) (λ p own. page_notifies c [] p read tt own) read (list_response_read x)
  item_notifies c (next r token set) x read paged_list =
      list_notifies c (with_next c r set) (said_of_list wanted x) (λ p own. checks (nat_eq p.revision r) c (with_page c set p) read (page_notifies c set p read paged_list own)) read (list_response_read x)
  item_notifies c streaming x read paged_list = watch_notifies c c.cache (said_of_watch wanted x) refl read (watch_response_read x)

  step_notifies : (c : Client) (x : ReplyItem) → AllMatchTheirTexts wanted c → NotifiesSince wanted c (receives wanted c x)
  step_notifies c x read = go c.is_awaiting_reply
    where
      go : (b : Bool) → NotifiesSince wanted c (cond b (with_item wanted c c.sync x) c)
      go true = item_notifies c c.sync x read read.paged_list
      go false = same c c.sync c.is_awaiting_reply read read.paged_list

  pub all_notify : (c : Client) (xs : List ReplyItem) → AllMatchTheirTexts wanted c → NotifiesSince wanted c (receives_all wanted c xs)
  all_notify c [] read = same c c.sync c.is_awaiting_reply read read.paged_list
  all_notify c (x ∷ xs) read =
      let one : NotifiesSince wanted c (receives wanted c x) = step_notifies c x read in
      joined c (receives wanted c x) (receives_all wanted (receives wanted c x) xs) one (all_notify (receives wanted c x) xs one.has_read)

  pub still_lead : (o : Objects) (c : Client) (xs : List ReplyItem) → AllMatchTheirTexts wanted c → LeadFrom o c → LeadFrom o (receives_all wanted c xs)
  still_lead o c xs read lead =
      let emitted : NotifiesSince wanted c (receives_all wanted c xs) = all_notify c xs read in (
        subst (OldSidesMatch o) (sym emitted.waiting) (old-append o c.notices emitted.since lead.0 (subst (λ q. OldSidesMatch q emitted.since) (sym lead.1) emitted.old)),
        ap (replayed o) emitted.waiting ∙ replayed-append o c.notices emitted.since ∙ ap (λ q. replayed q emitted.since) lead.1 ∙ emitted.replay,
      )

  -- ---- the other events

  pub fresh_read : AllMatchTheirTexts wanted fresh
  fresh_read = record { objects = empty_read wanted; paged_list = tt }

  pub closed_read : (o : Objects) (c : Client) → AllMatchTheirTexts wanted c → LeadFrom o c → AllMatchTheirTexts wanted (closed c) × LeadFrom o (closed c)
  closed_read o c read lead = go c.is_awaiting_reply
    where
      left : (a : SyncPhase) → AreTheirTexts wanted (paged_list_in (after_cut a))
      left first = tt
      left (next r token set) = tt
      left streaming = tt

      go : (b : Bool) → AllMatchTheirTexts wanted (if_awaiting_reply b c) × LeadFrom o (if_awaiting_reply b c)
      go true = (record { objects = read.objects; paged_list = left c.sync }, lead)
      go false = (read, lead)
