-- Replies that follow one another: the client between them, and what it has of a server that they keep to.
use Rattle.std.proofs.Common.{◌≡◌, ◌<◌, ◌≤◌, ◌+◌, ℕ, suc, Bool, true, false, cond, inl, inr, List, [], ◌∷◌, ◌++◌, length, Option, Some, None, Result, Ok, Err, refl, sym, ap, subst, ◌∙◌, append_assoc, append-nil, add-one, arith, le-leb, length-append, true≢false}
use Rattle.std.specs.Prelude.{◌⊎◌, take, IfErr, OnErr, OnOk, nat_eq}
use Rattle.std.specs.Io.KnownBytes.{Consumes}
use Rattle.std.proofs.KnownBytes.{Consumes-nil, Consumes-trans}
use Rattle.std.proofs.lemmas.Bool.{leb-true}
use Rattle.std.specs.FinMap as fin
use Rattle.wireclient.specs.Reads.{Items, start}
use Rattle.wireclient.specs.Reply.{ReplyItem, head, whole, end}
use Rattle.decoder.specs.Wanted.{Wanted}
use Rattle.decoder.specs.Members.{Read}
use Rattle.decoder.specs.Pages.{Page, page_in}
use Rattle.indexer.specs.Objects.{Stored}
use Rattle.reflector.specs.Client.{Cache, Client, Notice, Objects, SyncPhase, first, max_objects, next, streaming}
use Rattle.reflector.specs.FollowsLaws.{Follows, FollowsFrom, IsCacheOf, IsSyncSound, Server}
use Rattle.reflector.specs.InformerViews.{InformerRepresents, relist_reason_in}
use Rattle.reflector.specs.Items.{page_or_unexpected}
use Rattle.reflector.specs.ListLaws.{ArePages, answered}
use Rattle.reflector.specs.ReadingViews.{AreReceived}
use Rattle.reflector.specs.RelistReasons.{relist_reason_after}
use Rattle.reflector.specs.Requests.{Settings, request_of}
use Rattle.reflector.specs.Run.{asked, ascends_within_limit, closed, keep_paged, receives, receives_all, relisting, with_item, with_list, with_next, with_page}
use Rattle.reflector.specs.declared.informer.Informer.{Informer}
use Rattle.reflector.specs.declared.relist_reason.RelistReason.{RelistReason}
use Rattle.reflector.proofs.Follows.{given_up, is_asked, is_closed, items_received}
use Rattle.reflector.proofs.Lists.{list_taken}
use Rattle.reflector.proofs.RelistReasons.{none_while_awaiting_reply, relist_reason_then}
use Rattle.mirroring.specs.Syncs.{AreFew, AreWhole, CatchesUp, Follow, GetThere, Hands, IsCaughtUp, IsLeftOf, KeepTo, Leaves, Received, ReceivedUntilFault, Replies, Syncs, SyncsSome, all_replied, has_reached, replied, reported}
use Rattle.mirroring.specs.Turns.{Answers, Is, LearnsReason}
use Rattle.mirroring.proofs.Pages.{few}
use Rattle.mirroring.proofs.Ahead.{closed_keeps, if_awaiting_reply, received_then}

-- ---- the client between two replies

-- it asks nothing
pub idle_after : (wanted : Wanted) (c : Client) (replies : List (List ReplyItem)) → c.is_awaiting_reply ≡ false → (all_replied wanted c replies).is_awaiting_reply ≡ false
idle_after wanted c [] idle = idle
idle_after wanted c (items ∷ replies) idle = idle_after wanted (replied wanted c items) replies (closed_keeps (receives_all wanted (asked c) items)).0

pub replied_then : (wanted : Wanted) (c : Client) (replies : List (List ReplyItem)) (items : List ReplyItem) → all_replied wanted c (replies ++ items ∷ []) ≡ replied wanted (all_replied wanted c replies) items
replied_then wanted c [] items = refl
replied_then wanted c (r ∷ rs) items = replied_then wanted (replied wanted c r) rs items

module _ {D : Type 0} (answers : D → List ℕ → List ℕ → D → Type 0) (learns : D → RelistReason → D → Type 0) (s : Settings) (least : ℕ) where
  -- one reply more
  pub hands_then : (a b mid after : D) (c : Client) (replies : List (List ReplyItem)) (items : List ReplyItem) (bytes : List ℕ) → Hands answers learns s least a c replies b
      → has_reached least (all_replied s.wanted c replies).cache ≡ false → answers b (request_of s (all_replied s.wanted c replies)) bytes mid → Items bytes items
      → LearnsReason learns (relist_reason_after s.wanted (asked (all_replied s.wanted c replies)) None items) mid after → Hands answers learns s least a c (replies ++ items ∷ []) after
  hands_then a b mid after c [] items bytes same behind answered is learnt = (behind, bytes, mid, after, subst (λ (x : D). answers x (request_of s c) bytes mid) same answered, is, learnt, refl)
  hands_then a b mid after c (r ∷ rs) items bytes (was, before, m, n, did, held, told, others) behind answered is learnt =
      (was, before, m, n, did, held, told, hands_then n b mid after (replied s.wanted c r) rs items bytes others behind answered is learnt)

-- ---- a server that the replies keep to

module _ (server : Server) (wanted : Wanted) where
  lower_sync : (m n : ℕ) (sync : SyncPhase) (cache : Option Cache) → m ≤ n → IsSyncSound server n sync cache → IsSyncSound server m sync cache
  lower_sync m n first cache le is = tt
  lower_sync m n (next r token paged_list) cache le is =
      let a : n ≤ r = is.0 in
      (omega arith, is.1, is.2)
  lower_sync m n streaming cache le is = is

  -- what the client follows from is the revision that it reports
  at_reported : (m n p q : ℕ) (c : Client) (xs ys : List ReplyItem) → m ≤ n → c.is_awaiting_reply ≡ false → Follows server wanted n c xs p → (m ≤ reported m c.cache) × Follows server wanted (reported m c.cache) c ys q
  at_reported m n p q c xs ys le idle is = go c.cache refl
    where
      go : (o : Option Cache) → c.cache ≡ o → (m ≤ reported m o) × Follows server wanted (reported m o) c ys q
      go None e =
          let top : n ≤ server.top = is.low in (
            omega arith,
            record { low = omega arith; cache = subst (IsCacheOf server m) (sym e) tt; sync = lower_sync m n c.sync c.cache le is.sync; coming = λ f. absurd (true≢false (sym f ∙ idle)) },
          )
      go (Some now) e =
          let held : IsCacheOf server n (Some now) = subst (IsCacheOf server n) e is.cache in (
            subst (λ (k : ℕ). m ≤ k) (sym held.0) le,
            record {
              low = subst (λ (k : ℕ). k ≤ server.top) (sym held.0) is.low;
              cache = subst (IsCacheOf server now.revision) (sym e) (refl, held.1);
              sync = subst (λ (k : ℕ). IsSyncSound server k c.sync c.cache) (sym held.0) is.sync;
              coming = λ f. absurd (true≢false (sym f ∙ idle));
            },
          )

  follow_on : (m p : ℕ) (c : Client) (replies : List (List ReplyItem)) → m ≤ reported m c.cache → Follows server wanted (reported m c.cache) c [] p → KeepTo server wanted m c replies
      → (m ≤ reported m (all_replied wanted c replies).cache) × Follows server wanted (reported m (all_replied wanted c replies).cache) (all_replied wanted c replies) [] p
  follow_on m p c [] le is word = (le, is)
  follow_on m p c (items ∷ replies) le is word =
      let n : ℕ = reported m c.cache in
      let others : List ReplyItem = word.0.0 in
      let q : ℕ = word.0.1 in
      let asks : Follows server wanted n (asked c) (items ++ others) q = is_asked server wanted n c [] (items ++ others) p q is word.0.2 in
      let came : FollowsFrom server wanted n (receives_all wanted (asked c) items) others q = items_received server wanted n (asked c) items others q asks in
      let over : Follows server wanted came.0 (replied wanted c items) [] p = is_closed server wanted came.0 (receives_all wanted (asked c) items) others [] q p came.2 in
      let a : n ≤ came.0 = came.1 in
      let b : m ≤ n = le in
      let now = at_reported m came.0 p p (replied wanted c items) [] [] (omega arith) (closed_keeps (receives_all wanted (asked c) items)).0 over in
      follow_on m p (replied wanted c items) replies now.0 now.1 word.1

  -- the word of all but the last, and of the last
  word_of : (m : ℕ) (c : Client) (replies : List (List ReplyItem)) (part : List ReplyItem) → KeepTo server wanted m c (replies ++ part ∷ []) → KeepTo server wanted m c replies × KeepTo server wanted m (all_replied wanted c replies) (part ∷ [])
  word_of m c [] part word = (tt, word)
  word_of m c (items ∷ replies) part word =
      let others = word_of m (replied wanted c items) replies part word.1 in
      ((word.0, others.0), others.1)

  left_follows : (m n p q : ℕ) (c : Client) (part others : List ReplyItem) (d : Client) → m ≤ n → Follows server wanted n c [] p → FollowsFrom server wanted n (receives_all wanted (asked c) part) others q → IsLeftOf wanted c part d
      → FollowsFrom server wanted m d [] p
  left_follows m n p q c part others d le is came (inl same) = (n, le, subst (λ (e : Client). Follows server wanted n e [] p) (sym same) is)
  left_follows m n p q c part others d le is came (inr (inl same)) =
      let a : n ≤ came.0 = came.1 in
      (came.0, omega (arith, le), subst (λ (e : Client). Follows server wanted came.0 e [] p) (sym same) (is_closed server wanted came.0 (receives_all wanted (asked c) part) others [] q p came.2))
  left_follows m n p q c part others d le is came (inr (inr same)) =
      let a : n ≤ came.0 = came.1 in
      (came.0, omega (arith, le), subst (λ (e : Client). Follows server wanted came.0 e [] p) (sym same) (given_up server wanted came.0 (receives_all wanted (asked c) part) [] p came.2.low came.2.cache))

  caught_up : (least n p : ℕ) (d : Client) → Follows server wanted n d [] p → has_reached least d.cache ≡ true → IsCaughtUp server least d.cache
  caught_up least n p d is reached = go d.cache is.cache reached
    where
      go : (o : Option Cache) → IsCacheOf server n o → has_reached least o ≡ true → IsCaughtUp server least o
      go None held at = absurd (true≢false (sym at))
      go (Some now) held at = (held.1, leb-true least now.revision at, subst (λ (k : ℕ). k ≤ server.top) (sym held.0) is.low)

pub follows_replies : (wanted : Wanted) (least : ℕ) (c : Client) (replies : List (List ReplyItem)) (is_there : Bool) → c.is_awaiting_reply ≡ false → is_there ≡ has_reached least (all_replied wanted c replies).cache
    → Follow wanted least c replies (all_replied wanted c replies) is_there
follows_replies wanted least c replies is_there idle same = λ server m p is word.
    let now = at_reported server wanted m m p p c [] [] (omega arith) idle is in
    let d : Client = all_replied wanted c replies in
    let on = follow_on server wanted m p c replies now.0 now.1 word in
    ((reported m d.cache, on.0, on.1), λ there. caught_up server wanted least (reported m d.cache) p d on.1 (sym same ∙ there))

pub follows_left : (wanted : Wanted) (c : Client) (replies : List (List ReplyItem)) (part : List ReplyItem) (d : Client) → c.is_awaiting_reply ≡ false → IsLeftOf wanted (all_replied wanted c replies) part d
    → (server : Server) (m p : ℕ) → Follows server wanted m c [] p → KeepTo server wanted m c (replies ++ part ∷ []) → FollowsFrom server wanted m d [] p
follows_left wanted c replies part d idle left = λ server m p is word.
    let now = at_reported server wanted m m p p c [] [] (omega arith) idle is in
    let e : Client = all_replied wanted c replies in
    let (before, last) = word_of server wanted m c replies part word in
    let on = follow_on server wanted m p c replies now.0 now.1 before in
    let n : ℕ = reported m e.cache in
    let asks : Follows server wanted n (asked e) (part ++ last.0.0) last.0.1 = is_asked server wanted n e [] (part ++ last.0.0) p last.0.1 on.1 last.0.2 in
    left_follows server wanted m n p last.0.1 e part last.0.0 d on.0 on.1 (items_received server wanted n (asked e) part last.0.0 last.0.1 asks) left

-- ---- pages that come whole

abbrev stands : Bool → SyncPhase → Option Cache → List Notice → Client
stands b sync cache notices = record { cache = cache; sync = sync; is_awaiting_reply = b; notices = notices }

-- the end of a connection changes nothing where none is open
pub closed_idle : (c : Client) → c.is_awaiting_reply ≡ false → closed c ≡ c
closed_idle c is = ap (λ (b : Bool). if_awaiting_reply b c) is

module _ (wanted : Wanted) where
  checked_ends : (b : Bool) (c good : Client) → good.is_awaiting_reply ≡ false → (cond b good (relisting c)).is_awaiting_reply ≡ false
  checked_ends true c good is = is
  checked_ends false c good is = refl

  part_ends : (c : Client) (r : ℕ) (all : List Stored) (token : Option (List ℕ)) → (keep_paged c r all token).is_awaiting_reply ≡ false
  part_ends c r all None = refl
  part_ends c r all (Some token) = refl

  page_ends : (c : Client) (paged_list : List Stored) (p : Page) → (with_page c paged_list p).is_awaiting_reply ≡ false
  page_ends c paged_list p =
      let all : List Stored = paged_list ++ p.objects in
      checked_ends (ascends_within_limit all) c (keep_paged c p.revision all p.token) (part_ends c p.revision all p.token)

  body_ends : (c : Client) (with_it : Page → Client) (read : Read Page) → ((p : Page) → (with_it p).is_awaiting_reply ≡ false) → (with_list c with_it (page_or_unexpected read)).is_awaiting_reply ≡ false
  body_ends c with_it (Ok p) is = is p
  body_ends c with_it (Err m) is = refl

  -- a body ends each request
  whole_ends : (b : Bool) (sync : SyncPhase) (cache : Option Cache) (notices : List Notice) (body : List ℕ) → (receives wanted (stands b sync cache notices) (whole body)).is_awaiting_reply ≡ false
  whole_ends false sync cache notices body = refl
  whole_ends true first cache notices body =
      let c : Client = stands true first cache notices in
      body_ends c (with_page c []) (page_in wanted body) (page_ends c [])
  whole_ends true (next r token paged_list) cache notices body =
      let c : Client = stands true (next r token paged_list) cache notices in
      body_ends c (with_next c r paged_list) (page_in wanted body) (λ p. checked_ends (nat_eq p.revision r) c (with_page c paged_list p) (page_ends c paged_list p))
  whole_ends true streaming None notices body = refl
  whole_ends true streaming (Some now) notices body = refl

  skips : (c : Client) (x : ReplyItem) → c.is_awaiting_reply ≡ false → receives wanted c x ≡ c
  skips c x is = ap (λ (b : Bool). cond b (with_item wanted c c.sync x) c) is

  -- then the end of the connection changes nothing
  whole_replied : (c : Client) (body : List ℕ) → replied wanted c (head 200 ∷ whole body ∷ end ∷ []) ≡ receives_all wanted (asked c) (head 200 ∷ whole body ∷ end ∷ [])
  whole_replied c body =
      let begun : Client = receives wanted (asked c) (head 200) in
      let over : Client = receives wanted begun (whole body) in
      let idle : over.is_awaiting_reply ≡ false = whole_ends begun.is_awaiting_reply begun.sync begun.cache begun.notices body in
      closed_idle (receives wanted over end) (ap (λ (d : Client). d.is_awaiting_reply) (skips over end idle) ∙ idle)

module _ {D : Type 0} (answers : D → List ℕ → List ℕ → D → Type 0) (learns : D → RelistReason → D → Type 0) (s : Settings) (least : ℕ) where
  -- the replies don't go on behind what reaches the revision
  whole_there : (a b : D) (c : Client) (bodies : List (List ℕ)) (replies : List (List ReplyItem)) → AreWhole bodies replies → length bodies ≤ length replies → Hands answers learns s least a c replies b
      → has_reached least (answered s.wanted c bodies).cache ≡ true → has_reached least (all_replied s.wanted c replies).cache ≡ true
  whole_there a b c [] [] is le hands at = at
  whole_there a b c [] (items ∷ replies) is le hands at = absurd (true≢false (sym at ∙ hands.0))
  whole_there a b c (body ∷ bodies) [] is le hands at = absurd (omega (arith, le))
  whole_there a b c (body ∷ bodies) (items ∷ replies) is le (behind, bytes, mid, after, did, held, told, others) at =
      let same : replied s.wanted c items ≡ receives_all s.wanted (asked c) (head 200 ∷ whole body ∷ end ∷ []) = ap (replied s.wanted c) is.0 ∙ whole_replied s.wanted c body in
      whole_there after b (replied s.wanted c items) bodies replies is.1 (omega (arith, le)) others (ap (λ (d : Client). has_reached least (answered s.wanted d bodies).cache) same ∙ at)

  gets_there : (turns : ℕ) (a b : D) (c : Client) (replies : List (List ReplyItem)) (is_there : Bool) → is_there ≡ has_reached least (all_replied s.wanted c replies).cache → Hands answers learns s least a c replies b
      → (has_reached least (all_replied s.wanted c replies).cache ≡ false → length replies ≡ turns) → GetThere s.wanted least turns c replies is_there
  gets_there turns a b c replies is_there same hands all = λ o r bodies sync pages small low enough came. go is_there refl o r bodies sync pages small low enough came
    where
      go : (h : Bool) → is_there ≡ h → (o : Objects) (r : ℕ) (bodies : List (List ℕ)) → c.sync ≡ first → ArePages s.wanted o r [] bodies → fin.len o ≤ max_objects → least ≤ r → AreFew s.wanted o bodies turns
          → AreWhole bodies replies → is_there ≡ true
      go true e o r bodies sync pages small low enough came = e
      go false e o r bodies sync pages small low enough came =
          let full : length replies ≡ turns = all (sym same ∙ e) in
          let most : length bodies ≤ turns = few s.wanted o r turns bodies pages enough in
          let at : has_reached least (answered s.wanted c bodies).cache ≡ true = ap (has_reached least) (list_taken s.wanted o r small bodies c sync pages) ∙ le-leb least r low in
          same ∙ whole_there a b c bodies replies came (omega (arith, full, most)) hands at

  -- ---- both

  pub syncs_by : {I : Type 0} (keys : I → Stored → List (List ℕ)) (turns : ℕ) (a b : D) (c : Client) (i : Informer I) (replies : List (List ReplyItem)) (is_there : Bool) → c.is_awaiting_reply ≡ false
      → CatchesUp keys answers learns s least turns a c b i replies → is_there ≡ has_reached least (all_replied s.wanted c replies).cache → Syncs keys answers learns s least turns a c b i is_there
  syncs_by keys turns a b c i replies is_there idle (hands, runs, most, all) same = (
    replies,
    (hands, runs, most, all),
    same,
    follows_replies s.wanted least c replies is_there idle same,
    gets_there turns a b c replies is_there same hands all,
  )

-- ---- one reply

-- a piece more
pub got_more : {I : Type 0} (keys : I → Stored → List (List ℕ)) (wanted other : Wanted) (c : Client) (i : Informer I) (x y z : Option (List ℕ)) (bytes : List ℕ) (items : List ReplyItem) (piece : List ℕ) (response : List ReplyItem)
    → other ≡ wanted → (receives_all wanted (asked c) items).is_awaiting_reply ≡ true → Consumes x y bytes → Consumes y z piece → Items (bytes ++ piece) (items ++ response)
    → InformerRepresents keys i (receives_all other (receives_all wanted (asked c) items) response) (bytes ++ piece) (items ++ response)
    → relist_reason_in i ≡ relist_reason_after other (receives_all wanted (asked c) items) None response → Received keys wanted c i x z
got_more keys wanted other c i x y z bytes items piece response same asks read more is runs why =
    let now : Client = receives_all wanted (asked c) items in (
      bytes ++ piece,
      items ++ response,
      is,
      Consumes-trans x y z bytes piece read more,
      subst (λ (d : Client). InformerRepresents keys i d (bytes ++ piece) (items ++ response))
          (ap (λ (w : Wanted). receives_all w now response) same ∙ sym (received_then wanted (asked c) items response)) runs,
      why ∙ ap (λ (w : Wanted). relist_reason_after w now None response) same
          ∙ ap (λ t. relist_reason_after wanted now t response) (sym (none_while_awaiting_reply wanted (asked c) items asks))
          ∙ sym (relist_reason_then wanted (asked c) None items response),
    )

pub got_none : {I : Type 0} (keys : I → Stored → List (List ℕ)) (wanted : Wanted) (c : Client) (i : Informer I) (x : Option (List ℕ)) → InformerRepresents keys i (asked c) [] [] → relist_reason_in i ≡ None
    → Received keys wanted c i x x
got_none keys wanted c i x runs calm = ([], [], (start, (refl, refl)), Consumes-nil x, runs, calm)

replies_to : {I D R : Type 0} (keys : I → Stored → List (List ℕ)) (dials : D → List ℕ → R → D → Type 0) (remaining : R → Option (List ℕ)) (s : Settings) (p q : D) (c : Client) (reader left : R) (i j : Informer I)
    → dials p (request_of s c) reader q
    → ((e : Client) (bytes : List ℕ) (emitted : List ReplyItem) → InformerRepresents keys i e bytes emitted → InformerRepresents keys j (closed e) bytes emitted) → relist_reason_in j ≡ relist_reason_in i
    → Received keys s.wanted c i (remaining reader) (remaining left) → Replies keys (Answers dials remaining) s p c q j
replies_to keys dials remaining s p q c reader left i j dialled closes still (bytes, items, is, read, runs, why) =
    (bytes, items, (reader, left, dialled, read), is, (bytes, items, closes (receives_all s.wanted (asked c) items) bytes items runs), still ∙ why)

pub replies_once : {I D R T E : Type 0} (r : Result T E) (keys : I → Stored → List (List ℕ)) (dials : D → List ℕ → R → D → Type 0) (remaining : R → Option (List ℕ)) (other s : Settings) (p q : D) (c : Client)
    (reader left : R) (i j : Informer I) → other ≡ s → dials p (request_of s c) reader q
    → ((e : Client) (bytes : List ℕ) (emitted : List ReplyItem) → InformerRepresents keys i e bytes emitted → InformerRepresents keys j (closed e) bytes emitted) → relist_reason_in j ≡ relist_reason_in i
    → OnOk r (Received keys other.wanted c i (remaining reader) (remaining left)) → OnOk r (Replies keys (Answers dials remaining) s p c q j)
replies_once (Ok x) keys dials remaining other s p q c reader left i j same dialled closes still received =
    replies_to keys dials remaining s p q c reader left i j dialled closes still (subst (λ (w : Settings). Received keys w.wanted c i (remaining reader) (remaining left)) same received)
replies_once (Err e) keys dials remaining other s p q c reader left i j same dialled closes still received = tt

-- ---- a fault

-- with the connection still open
pub left_open : {I : Type 0} (keys : I → Stored → List (List ℕ)) (wanted : Wanted) (c : Client) (i : Informer I) (x y : Option (List ℕ)) → Received keys wanted c i x y → ReceivedUntilFault keys wanted c i
left_open keys wanted c i x y (bytes, items, is, read, runs, why) =
    (items, receives_all wanted (asked c) items, bytes, [], subst (Items bytes) (sym (append-nil items)) is, inl refl, (bytes, items, runs))

-- with the reply given up
pub left_given_up : {I : Type 0} (keys : I → Stored → List (List ℕ)) (wanted other : Wanted) (c : Client) (i : Informer I) (bytes : List ℕ) (items : List ReplyItem) (piece : List ℕ) (received : List ReplyItem)
    → other ≡ wanted → AreReceived bytes items piece received → InformerRepresents keys i (relisting (receives_all other (receives_all wanted (asked c) items) received)) [] [] → ReceivedUntilFault keys wanted c i
left_given_up keys wanted other c i bytes items piece received same (n, rest, is) runs = (
  items ++ received,
  relisting (receives_all wanted (asked c) (items ++ received)),
  bytes ++ take n piece,
  rest,
  subst (Items (bytes ++ take n piece)) (sym (append_assoc items received rest)) is,
  inr refl,
  (
    [],
    [],
    subst (λ (d : Client). InformerRepresents keys i (relisting d) [] [])
        (ap (λ (w : Wanted). receives_all w (receives_all wanted (asked c) items) received) same ∙ sym (received_then wanted (asked c) items received)) runs,
  ),
)

-- then the connection ends
left_over : {I : Type 0} (keys : I → Stored → List (List ℕ)) (wanted : Wanted) (c : Client) (i j : Informer I)
    → ((e : Client) (bytes : List ℕ) (emitted : List ReplyItem) → InformerRepresents keys i e bytes emitted → InformerRepresents keys j (closed e) bytes emitted)
    → ReceivedUntilFault keys wanted c i → (part : List ReplyItem) × (d : Client) × Leaves keys wanted c part d j
left_over keys wanted c i j closes (part, d, bytes, others, is, how, runs) = (part, closed d, (bytes, others, is, go how, (runs.0, runs.1, closes d runs.0 runs.1 runs.2)))
  where
    go : (d ≡ receives_all wanted (asked c) part) ⊎ (d ≡ relisting (receives_all wanted (asked c) part)) → IsLeftOf wanted c part (closed d)
    go (inl same) = inr (inl (ap closed same))
    go (inr same) = inr (inr (ap closed same))

pub left_once : {I T E : Type 0} (r : Result T E) (is_undialled : E → Bool) (keys : I → Stored → List (List ℕ)) (other wanted : Wanted) (c : Client) (i j : Informer I) → other ≡ wanted
    → ((e : Client) (bytes : List ℕ) (emitted : List ReplyItem) → InformerRepresents keys i e bytes emitted → InformerRepresents keys j (closed e) bytes emitted) → IfErr r (λ f. is_undialled f ≡ false)
    → OnErr r (ReceivedUntilFault keys other c i)
    → IfErr r (λ f. (part : List ReplyItem) × (d : Client) × Leaves keys wanted c part d j × (is_undialled f ≡ true → d ≡ closed (asked c)))
left_once (Ok x) is_undialled keys other wanted c i j same closes dialled left = tt
left_once (Err f) is_undialled keys other wanted c i j same closes dialled left =
    let (part, d, is) = left_over keys wanted c i j closes (subst (λ (w : Wanted). ReceivedUntilFault keys w c i) same left) in
    (part, d, is, λ undialled. absurd (true≢false (sym undialled ∙ dialled)))

-- with nothing received
pub left_nothing : {I : Type 0} (keys : I → Stored → List (List ℕ)) (wanted : Wanted) (c d : Client) (i : Informer I) → IsLeftOf wanted c [] d → Is keys i d → Leaves keys wanted c [] d i
left_nothing keys wanted c d i how is = ([], [], (start, (refl, refl)), how, is)

-- after replies that came
pub faults_then : {I D : Type 0} (keys : I → Stored → List (List ℕ)) (answers : D → List ℕ → List ℕ → D → Type 0) (learns : D → RelistReason → D → Type 0) (s other : Settings) (least turns : ℕ) (a b : D) (c : Client) (i : Informer I)
    (replies : List (List ReplyItem)) (is_undialled : Bool) → other ≡ s → c.is_awaiting_reply ≡ false → Hands answers learns s least a c replies b → has_reached least (all_replied s.wanted c replies).cache ≡ false → length replies < turns
    → (part : List ReplyItem) × (d : Client) × Leaves keys other.wanted (all_replied s.wanted c replies) part d i × (is_undialled ≡ true → d ≡ closed (asked (all_replied s.wanted c replies)))
    → SyncsSome keys answers learns s least turns a c i is_undialled
faults_then keys answers learns s other least turns a b c i replies is_undialled same idle hands behind fewer (part, d, left, undialled) =
    let is = subst (λ (w : Settings). Leaves keys w.wanted (all_replied s.wanted c replies) part d i) same left in
    (replies, part, b, d, hands, behind, fewer, is, undialled, follows_left s.wanted c replies part d idle is.3)

-- one more of them
pub catches_more : {I D : Type 0} (keys : I → Stored → List (List ℕ)) (answers : D → List ℕ → List ℕ → D → Type 0) (learns : D → RelistReason → D → Type 0) (s other : Settings) (least n k : ℕ) (a b mid after : D) (c : Client)
    (i : Informer I) (replies : List (List ReplyItem)) → other ≡ s → k ≡ suc n → length replies ≡ n → Hands answers learns s least a c replies b → has_reached least (all_replied s.wanted c replies).cache ≡ false
    → Replies keys answers other b (all_replied s.wanted c replies) mid i → LearnsReason learns (relist_reason_in i) mid after
    → (all : List (List ReplyItem)) × (length all ≡ k) × Hands answers learns s least a c all after × Is keys i (all_replied s.wanted c all)
catches_more {I} {D} keys answers learns s other least n k a b mid after c i replies same more many hands behind once learnt =
    go (subst (λ (w : Settings). Replies keys answers w b (all_replied s.wanted c replies) mid i) same once)
  where
    go : Replies keys answers s b (all_replied s.wanted c replies) mid i → (all : List (List ReplyItem)) × (length all ≡ k) × Hands answers learns s least a c all after × Is keys i (all_replied s.wanted c all)
    go (bytes, items, answered, is, runs, why) = (
      replies ++ items ∷ [],
      length-append replies (items ∷ []) ∙ ap (λ (x : ℕ). x + 1) many ∙ add-one n ∙ sym more,
      hands_then answers learns s least a b mid after c replies items bytes hands behind answered is (subst (λ t. LearnsReason learns t mid after) why learnt),
      subst (Is keys i) (sym (replied_then s.wanted c replies items)) runs,
    )
