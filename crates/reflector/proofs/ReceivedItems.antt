-- What is kept and asked after an item, beside the client that hears it.
use Rattle.std.proofs.Common.{◌≡◌, ℕ, ◌+◌, ◌<◌, Bool, true, false, true≢false, cond, ◌&&◌, List, [], ◌∷◌, ◌++◌, map, take, length, get_or, Option, Some, None, is_some, refl, sym, ap, subst, ◌∙◌}
use Rattle.std.proofs.lemmas.List.{map-append, take_more}
use Rattle.std.specs.Prelude.{nat_lt, nat_le, OnErr}
use Rattle.std.specs.FinMap as fin
use Rattle.std.specs.declared.result.Result.{Result}
use Rattle.std.specs.declared.result.Result.TheVariants.{Ok, Err}
use Rattle.wireclient.specs.Reply.{ReplyItem}
use Rattle.decoder.specs.Wanted.{Wanted}
use Rattle.decoder.specs.Lines.{Line, put, deleted, bookmark, error}
use Rattle.reflector.specs.Client.{place_in, max_objects, SyncPhase, first, next, streaming, Cache, Client, notice_of}
use Rattle.reflector.specs.ReceivedViews.{is_streaming, page_reason_after, with_page_after}
use Rattle.reflector.specs.Items.{Response, line, over, said_of_list, said_of_watch}
use Rattle.reflector.specs.Run.{relisting, moved, after_watch_end, with_list, with_watch, with_item, receives, receives_all}
use Rattle.reflector.specs.RelistReasons.{item_reason, line_reason, list_item_reason, watch_item_reason, relist_reason_with}
use Rattle.reflector.specs.declared.relist_reason.RelistReason.{RelistReason}
use Rattle.reflector.specs.declared.relist_reason.RelistReason.TheVariants.{TooManyObjects, StaleEvent, StaleBookmark}
use Rattle.reflector.proofs.RelistReasons.{line_emitted}

pub received_more : (wanted : Wanted) (c : Client) (xs : List ReplyItem) (x : ReplyItem) → receives_all wanted c (xs ++ x ∷ []) ≡ receives wanted (receives_all wanted c xs) x
received_more wanted c [] x = refl
received_more wanted c (y ∷ xs) x = received_more wanted (receives wanted c y) xs x

-- one more of the items
pub next_received : {A : Type 0} (f : A → ReplyItem) (wanted : Wanted) (c : Client) (xs : List A) (i : ℕ) (x : A) → i < length xs → x ≡ get_or xs i x
    → receives_all wanted c (map f (take (i + 1) xs)) ≡ receives wanted (receives_all wanted c (map f (take i xs))) (f x)
next_received f wanted c xs i x lt is =
    ap (λ ys. receives_all wanted c (map f ys)) (take_more xs i x lt) ∙ ap (receives_all wanted c) (map-append f (take i xs) (get_or xs i x ∷ []))
    ∙ received_more wanted c (map f (take i xs)) (f (get_or xs i x)) ∙ ap (λ y. receives wanted (receives_all wanted c (map f (take i xs))) (f y)) (sym is)

-- a watch's line that fits leaves the watch under way
abbrev IsWatching : Client → Type 0
IsWatching d = (d.sync ≡ streaming) × (d.is_awaiting_reply ≡ true)

one_check : (b : Bool) (t : RelistReason) (d e : Client) → IsWatching d → None ≡ cond b None (Some t) → IsWatching (cond b d e)
one_check true t d e is fits = is
one_check false t d e is fits = absurd cc

two_checks : (a b : Bool) (s t : RelistReason) (d e : Client) → IsWatching d → None ≡ cond a (cond b None (Some s)) (Some t) → IsWatching (cond (a && b) d e)
two_checks true b s t d e is fits = one_check b s d e is fits
two_checks false b s t d e is fits = absurd cc

pub fitting_line : (c : Client) (cache : Option Cache) (l : Line) → None ≡ line_reason cache l → IsWatching (with_watch c cache (line l))
fitting_line c None l fits = absurd cc
fitting_line c (Some now) (put o) fits =
    two_checks (nat_lt now.revision o.revision) (nat_le (fin.len (fin.insert now.objects (place_in o) o)) max_objects) TooManyObjects StaleEvent
    (moved c o.revision (fin.insert now.objects (place_in o) o) (notice_of (fin.get now.objects (place_in o)) (Some o))) (relisting c) (refl, refl) fits
fitting_line c (Some now) (deleted o) fits =
    one_check (nat_lt now.revision o.revision) StaleEvent (moved c o.revision (fin.remove now.objects (place_in o)) (notice_of (fin.get now.objects (place_in o)) None)) (relisting c) (refl, refl) fits
fitting_line c (Some now) (bookmark r) fits = one_check (nat_le now.revision r) StaleBookmark (moved c r now.objects []) (relisting c) (refl, refl) fits
fitting_line c (Some now) error fits = absurd cc

-- one that breaks a rule gives the reply up
pub broken_line : (c : Client) → c.is_awaiting_reply ≡ true → (l : Line) (broken : RelistReason) → Some broken ≡ line_reason c.cache l → relisting (with_watch c c.cache (line l)) ≡ with_watch c c.cache (line l)
broken_line c awaiting_reply l broken is = let ends = (line_emitted c awaiting_reply c.cache l).0 (sym (ap is_some is)) in ap relisting ends ∙ sym ends

-- a watch that ends
pub ended_watch : (c : Client) (cache : Option Cache) → with_watch c cache over ≡ after_watch_end c
ended_watch c None = refl
ended_watch c (Some now) = refl

-- ---- by what is asked, whatever is to be shown of the client after it, and of what is wrong with it

module _ (wanted : Wanted) (c : Client) (x : ReplyItem) (P : Client → Option RelistReason → Type 0) where
  of_item_asked : (t : Option RelistReason) → c.is_awaiting_reply ≡ true → P (with_item wanted c c.sync x) (item_reason wanted c.cache c.sync x) → P (receives wanted c x) (relist_reason_with wanted c t x)
  of_item_asked t is h =
      subst (λ d. P d (relist_reason_with wanted c t x)) (sym (ap (λ b. cond b (with_item wanted c c.sync x) c) is))
      (subst (P (with_item wanted c c.sync x)) (sym (ap (λ b. cond b (item_reason wanted c.cache c.sync x) t) is)) h)

  by_list : (a : SyncPhase) → is_streaming a ≡ false → P (with_list c (with_page_after c a) (said_of_list wanted x)) (list_item_reason wanted (page_reason_after a) x) → P (with_item wanted c a x) (item_reason wanted c.cache a x)
  by_list first is h = h
  by_list (next r token paged_list) is h = h
  by_list streaming is h = absurd (true≢false is)

  by_watch : (a : SyncPhase) → streaming ≡ a → P (with_watch c c.cache (said_of_watch wanted x)) (watch_item_reason wanted c.cache x) → P (with_item wanted c a x) (item_reason wanted c.cache a x)
  by_watch a is h = subst (λ b. P (with_item wanted c b x) (item_reason wanted c.cache b x)) is h

  pub of_listed : (n : Response) (u t : Option RelistReason) → c.is_awaiting_reply ≡ true → is_streaming c.sync ≡ false → n ≡ said_of_list wanted x → u ≡ list_item_reason wanted (page_reason_after c.sync) x
      → P (with_list c (with_page_after c c.sync) n) u → P (receives wanted c x) (relist_reason_with wanted c t x)
  of_listed n u t awaiting_reply is said wrong h =
      of_item_asked t awaiting_reply (by_list c.sync is (subst (λ m. P (with_list c (with_page_after c c.sync) m) (list_item_reason wanted (page_reason_after c.sync) x)) said (subst (P (with_list c (with_page_after c c.sync) n)) wrong h)))

  pub of_watched : (n : Response) (u t : Option RelistReason) → c.is_awaiting_reply ≡ true → c.sync ≡ streaming → n ≡ said_of_watch wanted x → u ≡ watch_item_reason wanted c.cache x
      → P (with_watch c c.cache n) u → P (receives wanted c x) (relist_reason_with wanted c t x)
  of_watched n u t awaiting_reply is said wrong h =
      of_item_asked t awaiting_reply (by_watch c.sync (sym is) (subst (λ m. P (with_watch c c.cache m) (watch_item_reason wanted c.cache x)) said (subst (P (with_watch c c.cache n)) wrong h)))

  pub of_idle : (t : Option RelistReason) → c.is_awaiting_reply ≡ false → P c t → P (receives wanted c x) (relist_reason_with wanted c t x)
  of_idle t is h =
      subst (λ d. P d (relist_reason_with wanted c t x)) (sym (ap (λ b. cond b (with_item wanted c c.sync x) c) is)) (subst (P c) (sym (ap (λ b. cond b (item_reason wanted c.cache c.sync x) t) is)) h)

pub is_watch : (a : SyncPhase) → is_streaming a ≡ true → a ≡ streaming
is_watch first is = absurd (true≢false (sym is))
is_watch (next r token paged_list) is = absurd (true≢false (sym is))
is_watch streaming is = refl

pub on_err : {A B : Type 0} (r : Result A B) (P : Type 0) → P → OnErr r P
on_err (Ok x) P h = tt
on_err (Err e) P h = h
