-- What is wrong with an item, beside the client that hears it.
use Rattle.std.proofs.Common.{◌≡◌, ℕ, ◌+◌, ◌<◌, Bool, true, false, cond, ◌&&◌, List, [], ◌∷◌, ◌++◌, map, take, length, get_or, Option, Some, None, is_some, refl, sym, ap, ◌∙◌, true≢false}
use Rattle.std.proofs.lemmas.List.{map-append, take_more}
use Rattle.std.specs.Prelude.{◌==◌, nat_eq, nat_lt, nat_le}
use Rattle.std.specs.FinMap as fin
use Rattle.std.specs.declared.result.Result.TheVariants.{Ok, Err}
use Rattle.indexer.specs.Objects.{Stored}
use Rattle.wireclient.specs.Reply.{ReplyItem, head, whole, end, malformed}
use Rattle.wireclient.specs.Reply as reply
use Rattle.decoder.specs.Wanted.{Wanted}
use Rattle.decoder.specs.Members.{Read}
use Rattle.decoder.specs.Pages.{Page, page_in}
use Rattle.decoder.specs.Lines.{Line, line_in, put, deleted, bookmark, error}
use Rattle.reflector.specs.Client.{place_in, max_objects, Cache, SyncPhase, first, next, streaming, Client, notice_of}
use Rattle.reflector.specs.Items.{begun, line, unexpected, page_or_unexpected, line_or_unexpected, said_of_list, said_of_watch}
use Rattle.reflector.specs.Run.{relisting, receives, receives_all, ascends_within_limit, moved, after_watch_end, keep_paged, with_item, with_list, with_next, with_page, with_watch}
use Rattle.reflector.specs.RelistReasons.{body_reason, item_reason, line_reason, list_item_reason, next_page_reason, page_reason, text_reason, watch_item_reason, relist_reason_after, relist_reason_with}
use Rattle.reflector.specs.declared.relist_reason.RelistReason.{RelistReason}
use Rattle.reflector.specs.declared.relist_reason.RelistReason.TheVariants.{Status, MalformedHttp, NotAList, NotAWatch, InconsistentList, NotAscending, TooManyObjects, StaleEvent, StaleBookmark, ErrorEvent}
use Rattle.reflector.specs.declared.relist_reason.RelistReason.TheVariants as relist_reason
use Rattle.reflector.proofs.Reached.{was_awaiting_reply}

-- ---- items one after another

relist_reason_more : (wanted : Wanted) (c : Client) (t : Option RelistReason) (xs : List ReplyItem) (x : ReplyItem) → relist_reason_after wanted c t (xs ++ x ∷ []) ≡ relist_reason_with wanted (receives_all wanted c xs) (relist_reason_after wanted c t xs) x
relist_reason_more wanted c t [] x = refl
relist_reason_more wanted c t (y ∷ xs) x = relist_reason_more wanted (receives wanted c y) (relist_reason_with wanted c t y) xs x

-- one more of the items
pub next_relist_reason : {A : Type 0} (f : A → ReplyItem) (wanted : Wanted) (c : Client) (t : Option RelistReason) (xs : List A) (i : ℕ) (x : A) → i < length xs → x ≡ get_or xs i x
    → relist_reason_after wanted c t (map f (take (i + 1) xs)) ≡ relist_reason_with wanted (receives_all wanted c (map f (take i xs))) (relist_reason_after wanted c t (map f (take i xs))) (f x)
next_relist_reason f wanted c t xs i x lt is =
    ap (λ ys. relist_reason_after wanted c t (map f ys)) (take_more xs i x lt) ∙ ap (relist_reason_after wanted c t) (map-append f (take i xs) (get_or xs i x ∷ []))
    ∙ relist_reason_more wanted c t (map f (take i xs)) (f (get_or xs i x))
    ∙ ap (λ y. relist_reason_with wanted (receives_all wanted c (map f (take i xs))) (relist_reason_after wanted c t (map f (take i xs))) (f y)) (sym is)

pub relist_reason_then : (wanted : Wanted) (c : Client) (t : Option RelistReason) (xs ys : List ReplyItem) → relist_reason_after wanted c t (xs ++ ys) ≡ relist_reason_after wanted (receives_all wanted c xs) (relist_reason_after wanted c t xs) ys
relist_reason_then wanted c t [] ys = refl
relist_reason_then wanted c t (x ∷ xs) ys = relist_reason_then wanted (receives wanted c x) (relist_reason_with wanted c t x) xs ys

-- ---- a reply is given up where something is wrong with an item, and nowhere else

module _ (c : Client) (awaiting_reply : c.is_awaiting_reply ≡ true) where
  abbrev IsEmitted : Option RelistReason → Client → Type 0
  IsEmitted t d = (is_some t ≡ true → d ≡ relisting c) × (d ≡ relisting c → is_some t ≡ true)

  goes_on : (d : Client) → (d ≡ relisting c → ⊥) → IsEmitted None d
  goes_on d other = (λ e. absurd (true≢false (sym e)), λ e. absurd (other e))

  ends : (t : RelistReason) → IsEmitted (Some t) (relisting c)
  ends t = (λ e. refl, λ e. refl)

  still_sync : (d : Client) → d.is_awaiting_reply ≡ true → d ≡ relisting c → ⊥
  still_sync d is e = true≢false (sym is ∙ ap (λ (x : Client). x.is_awaiting_reply) e)

  checked : (b : Bool) (t : RelistReason) (d : Client) → (d ≡ relisting c → ⊥) → IsEmitted (cond b None (Some t)) (cond b d (relisting c))
  checked true t d other = goes_on d other
  checked false t d other = ends t

  nested : (b : Bool) (o : Option RelistReason) (t : RelistReason) (d : Client) → IsEmitted o d → IsEmitted (cond b o (Some t)) (cond b d (relisting c))
  nested true o t d is = is
  nested false o t d is = ends t

  twice : (a b : Bool) (s t : RelistReason) (d : Client) → (d ≡ relisting c → ⊥) → IsEmitted (cond a (cond b None (Some s)) (Some t)) (cond (a && b) d (relisting c))
  twice true true s t d other = goes_on d other
  twice true false s t d other = ends s
  twice false b s t d other = ends t

  -- ---- a list

  part : (r : ℕ) (all : List Stored) (token : Option (List ℕ)) → keep_paged c r all token ≡ relisting c → ⊥
  part r all (Some token) e = let h : next r token all ≡ first = ap (λ (d : Client). d.sync) e in cc
  part r all None e = let h : streaming ≡ first = ap (λ (d : Client). d.sync) e in cc

  page_emitted : (paged_list : List Stored) (p : Page) → IsEmitted (page_reason paged_list p) (with_page c paged_list p)
  page_emitted paged_list p =
      let all = paged_list ++ p.objects in
      checked (ascends_within_limit all) (cond (nat_le (length all) max_objects) NotAscending TooManyObjects) (keep_paged c p.revision all p.token) (part p.revision all p.token)

  next_emitted : (revision : ℕ) (paged_list : List Stored) (p : Page) → IsEmitted (next_page_reason revision paged_list p) (with_next c revision paged_list p)
  next_emitted revision paged_list p = nested (nat_eq p.revision revision) (page_reason paged_list p) InconsistentList (with_page c paged_list p) (page_emitted paged_list p)

  module _ (rules : Page → Option RelistReason) (with_it : Page → Client) (is : (p : Page) → IsEmitted (rules p) (with_it p)) where
    head_emitted : (b : Bool) (t : RelistReason) → IsEmitted (cond b None (Some t)) (with_list c with_it (cond b begun unexpected))
    head_emitted true t = goes_on c (still_sync c awaiting_reply)
    head_emitted false t = ends t

    body_emitted : (r : Read Page) → IsEmitted (body_reason rules r) (with_list c with_it (page_or_unexpected r))
    body_emitted (Ok p) = is p
    body_emitted (Err m) = ends (relist_reason.Malformed m)

    list_emitted : (wanted : Wanted) (x : ReplyItem) → IsEmitted (list_item_reason wanted rules x) (with_list c with_it (said_of_list wanted x))
    list_emitted wanted (head status) = head_emitted (status == 200) (Status status)
    list_emitted wanted (whole bytes) = body_emitted (page_in wanted bytes)
    list_emitted wanted (reply.line bytes) = ends NotAList
    list_emitted wanted end = ends NotAList
    list_emitted wanted malformed = ends MalformedHttp

  -- ---- a watch

  pub line_emitted : (now : Option Cache) (l : Line) → IsEmitted (line_reason now l) (with_watch c now (line l))
  line_emitted None l = ends NotAList
  line_emitted (Some now) (put o) =
      twice (nat_lt now.revision o.revision) (nat_le (fin.len (fin.insert now.objects (place_in o) o)) max_objects) TooManyObjects StaleEvent
      (moved c o.revision (fin.insert now.objects (place_in o) o) (notice_of (fin.get now.objects (place_in o)) (Some o))) (still_sync _ refl)
  line_emitted (Some now) (deleted o) =
      checked (nat_lt now.revision o.revision) StaleEvent (moved c o.revision (fin.remove now.objects (place_in o)) (notice_of (fin.get now.objects (place_in o)) None)) (still_sync _ refl)
  line_emitted (Some now) (bookmark r) = checked (nat_le now.revision r) StaleBookmark (moved c r now.objects []) (still_sync _ refl)
  line_emitted (Some now) error = ends ErrorEvent

  text_emitted : (now : Option Cache) (r : Read Line) → IsEmitted (text_reason now r) (with_watch c now (line_or_unexpected r))
  text_emitted now (Ok l) = line_emitted now l
  text_emitted None (Err m) = ends (relist_reason.Malformed m)
  text_emitted (Some now) (Err m) = ends (relist_reason.Malformed m)

  begins : (now : Option Cache) (b : Bool) (t : RelistReason) → IsEmitted (cond b None (Some t)) (with_watch c now (cond b begun unexpected))
  begins None true t = goes_on c (still_sync c awaiting_reply)
  begins (Some now) true t = goes_on c (still_sync c awaiting_reply)
  begins None false t = ends t
  begins (Some now) false t = ends t

  over : after_watch_end c ≡ relisting c → ⊥
  over e = let h : streaming ≡ first = ap (λ (d : Client). d.sync) e in cc

  watch_emitted : (wanted : Wanted) (now : Option Cache) (x : ReplyItem) → IsEmitted (watch_item_reason wanted now x) (with_watch c now (said_of_watch wanted x))
  watch_emitted wanted now (head status) = begins now (status == 200) (Status status)
  watch_emitted wanted None (whole bytes) = ends NotAWatch
  watch_emitted wanted (Some now) (whole bytes) = ends NotAWatch
  watch_emitted wanted now (reply.line bytes) = text_emitted now (line_in wanted bytes)
  watch_emitted wanted None end = goes_on (after_watch_end c) over
  watch_emitted wanted (Some now) end = goes_on (after_watch_end c) over
  watch_emitted wanted None malformed = ends MalformedHttp
  watch_emitted wanted (Some now) malformed = ends MalformedHttp

  item_emitted : (wanted : Wanted) (sync : SyncPhase) (x : ReplyItem) → IsEmitted (item_reason wanted c.cache sync x) (with_item wanted c sync x)
  item_emitted wanted first x = list_emitted (page_reason []) (with_page c []) (page_emitted []) wanted x
  item_emitted wanted (next r token paged_list) x = list_emitted (next_page_reason r paged_list) (with_next c r paged_list) (next_emitted r paged_list) wanted x
  item_emitted wanted streaming x = watch_emitted wanted c.cache x

  receives_item : (wanted : Wanted) (x : ReplyItem) → receives wanted c x ≡ with_item wanted c c.sync x
  receives_item wanted x = ap (λ (b : Bool). cond b (with_item wanted c c.sync x) c) awaiting_reply

  pub gives_up : (wanted : Wanted) (x : ReplyItem) → is_some (item_reason wanted c.cache c.sync x) ≡ true → receives wanted c x ≡ relisting c
  gives_up wanted x e = receives_item wanted x ∙ (item_emitted wanted c.sync x).0 e

  pub gave_up : (wanted : Wanted) (x : ReplyItem) → receives wanted c x ≡ relisting c → is_some (item_reason wanted c.cache c.sync x) ≡ true
  gave_up wanted x e = (item_emitted wanted c.sync x).1 (sym (receives_item wanted x) ∙ e)

-- ---- while more is awaited

no_relist_reason : (o : Option RelistReason) → (is_some o ≡ true → ⊥) → o ≡ None
no_relist_reason None f = refl
no_relist_reason (Some t) f = absurd (f refl)

none_yet : (wanted : Wanted) (c : Client) (x : ReplyItem) → c.is_awaiting_reply ≡ true → (receives wanted c x).is_awaiting_reply ≡ true → relist_reason_with wanted c None x ≡ None
none_yet wanted c x awaiting_reply on =
    ap (λ (b : Bool). cond b (item_reason wanted c.cache c.sync x) None) awaiting_reply
    ∙ no_relist_reason (item_reason wanted c.cache c.sync x) (λ e. true≢false (sym on ∙ ap (λ (d : Client). d.is_awaiting_reply) (gives_up c awaiting_reply wanted x e)))

pub none_while_awaiting_reply : (wanted : Wanted) (c : Client) (xs : List ReplyItem) → (receives_all wanted c xs).is_awaiting_reply ≡ true → relist_reason_after wanted c None xs ≡ None
none_while_awaiting_reply wanted c [] on = refl
none_while_awaiting_reply wanted c (x ∷ xs) on =
    let next : (receives wanted c x).is_awaiting_reply ≡ true = was_awaiting_reply wanted (receives wanted c x) xs on in
    ap (λ (t : Option RelistReason). relist_reason_after wanted (receives wanted c x) t xs) (none_yet wanted c x (was_awaiting_reply wanted c (x ∷ xs) on) next) ∙ none_while_awaiting_reply wanted (receives wanted c x) xs on
