-- Items behind others: lines of a watch that are told, and what a client that follows a server makes of them.
use Rattle.std.proofs.Common.{◌≡◌, ◌⊎◌, inl, inr, ℕ, ◌≤◌, Bool, true, false, List, [], ◌∷◌, ◌++◌, length, map, Option, Some, None, refl, sym, ap, ◌∙◌, arith, true≢false}
use Rattle.std.proofs.lemmas.Bool.{cond-true, lt-ltb, ltb-true, or_right}
use Rattle.std.proofs.lemmas.List.Elements.{All-cons, All-head, All-nil, All-tail}
use Rattle.std.specs.List.{All}
use Rattle.std.specs.Prelude.{◌==◌, nat_lt, if◌then◌else◌}
use Rattle.decoder.specs.Wanted.{Wanted}
use Rattle.reflector.specs.Client.{SyncPhase, Cache, Client, first, streaming, next}
use Rattle.reflector.specs.FollowsLaws.{IsReplyTo, Follows, IsCacheOf, IsListStep, Server, IsWatchStep, IsWatchReply}
use Rattle.reflector.specs.Items.{begun, unexpected}
use Rattle.indexer.specs.Objects.{Stored}
use Rattle.wireclient.specs.LineLaws.{HasNoFeed, IsLine}
use Rattle.wireclient.specs.Reads.{Items, has_closed, start}
use Rattle.wireclient.specs.Reply.{ReplyItem, head, is_last, line, malformed, max_line}
use Rattle.wire_laws.specs.Watched.{lines_sent}
use Rattle.world_laws.proofs.ClientLaws.{ClientLaws}

-- ---- lines

-- of no bytes nothing is told
pub nothing_read : Items [] []
nothing_read = (start, (refl, refl))

-- what fits is told, one line a text
pub lines_are_sent : (texts more : List (List ℕ)) (last : List ReplyItem) → All IsLine texts → lines_sent (texts ++ more) last ≡ map line texts ++ lines_sent more last
lines_are_sent [] more last lines = refl
lines_are_sent (text ∷ texts) more last lines =
    let fits : nat_lt (length text) max_line ≡ true = lt-ltb (length text) max_line (All-head IsLine text texts lines).fits in
    cond-true (nat_lt (length text) max_line) (line text ∷ lines_sent (texts ++ more) last) (malformed ∷ []) fits
    ∙ ap (λ (l : List ReplyItem). line text ∷ l) (lines_are_sent texts more last (All-tail IsLine text texts lines))

-- each of them fits, or nothing is told after them
abbrev pub FitOrClose : List (List ℕ) → List ReplyItem → Type 0
FitOrClose texts last = All IsLine texts ⊎ (has_closed (lines_sent texts last) ≡ true)

pub fit_or_close : (texts : List (List ℕ)) (last : List ReplyItem) → All HasNoFeed texts → FitOrClose texts last
fit_or_close [] last plain = inl (All-nil IsLine)
fit_or_close (text ∷ texts) last plain = go (nat_lt (length text) max_line) refl (fit_or_close texts last (All-tail HasNoFeed text texts plain))
  where
    go : (b : Bool) → nat_lt (length text) max_line ≡ b → FitOrClose texts last → All IsLine (text ∷ texts) ⊎ (has_closed (if b then line text ∷ lines_sent texts last else malformed ∷ []) ≡ true)
    go false is others = inr refl
    go true is (inl lines) = inl (All-cons IsLine text texts (record { one = All-head HasNoFeed text texts plain; fits = ltb-true (length text) max_line is }) lines)
    go true is (inr closed) = inr closed

pub closed_behind : (xs ys : List ReplyItem) → has_closed ys ≡ true → has_closed (xs ++ ys) ≡ true
closed_behind [] ys closed = closed
closed_behind (x ∷ xs) ys closed = or_right (is_last x) (has_closed (xs ++ ys)) (closed_behind xs ys closed)

-- ---- a client that follows

module _ (server : Server) (wanted : Wanted) where
  comes_more : (laws : ClientLaws) (m : ℕ) (asks : SyncPhase) (cache : Option Cache) (xs ys : List ReplyItem) (p q : ℕ) → asks ≡ streaming → IsReplyTo server wanted m asks cache xs p → IsWatchReply server wanted p ys q
      → IsReplyTo server wanted m asks cache (xs ++ ys) q
  comes_more laws m first cache xs ys p q is comes more = absurd cc
  comes_more laws m (next r token paged_list) cache xs ys p q is comes more = absurd cc
  comes_more laws m streaming None xs ys p q is comes more = tt
  comes_more laws m streaming (Some now) xs ys p q is comes more = laws.is_written server wanted now.revision p q xs ys comes more

  -- more of its watch
  pub follows_more : (laws : ClientLaws) (m : ℕ) (c : Client) (xs ys : List ReplyItem) (p q : ℕ) → c.sync ≡ streaming → Follows server wanted m c xs p → IsWatchReply server wanted p ys q → Follows server wanted m c (xs ++ ys) q
  follows_more laws m c xs ys p q is follows more =
      record { low = follows.low; cache = follows.cache; sync = follows.sync; coming = λ e. comes_more laws m c.sync c.cache xs ys p q is (follows.coming e) more }

  -- nothing of a client that asks nothing
  pub follows_silent : (m : ℕ) (c : Client) (xs ys : List ReplyItem) (p q : ℕ) → c.is_awaiting_reply ≡ false → Follows server wanted m c xs p → Follows server wanted m c ys q
  follows_silent m c xs ys p q silent follows =
      record { low = follows.low; cache = follows.cache; sync = follows.sync; coming = λ e. absurd (true≢false (sym e ∙ silent)) }

  -- it may ask, and nothing was answered yet
  pub nothing_comes : (m : ℕ) (asks : SyncPhase) (cache : Option Cache) → m ≤ server.top → IsCacheOf server m cache → (q : ℕ) × IsReplyTo server wanted m asks cache [] q
  nothing_comes m first cache low cached = (0, tt)
  nothing_comes m (next r token paged_list) cache low cached = (0, tt)
  nothing_comes m streaming None low cached = (0, tt)
  nothing_comes m streaming (Some now) low cached = let same : now.revision ≡ m = cached.0 in (now.revision, (omega arith, omega arith, refl))

  list_refused : (m : ℕ) (paged_list : List Stored) (b : Bool) (others : Type 0) → b ≡ false → IsListStep server m paged_list (if b then begun else unexpected) others
  list_refused m paged_list true others is = absurd (true≢false is)
  list_refused m paged_list false others is = tt

  watch_refused : (r : ℕ) (b : Bool) (others : ℕ → Type 0) → b ≡ false → IsWatchStep server r (if b then begun else unexpected) others
  watch_refused r true others is = absurd (true≢false is)
  watch_refused r false others is = tt

  -- a reply of another status than 200 answers whatever was asked
  pub refusal_comes : (m : ℕ) (asks : SyncPhase) (cache : Option Cache) (status : ℕ) (xs : List ReplyItem) (p : ℕ) → (status == 200) ≡ false → IsReplyTo server wanted m asks cache (head status ∷ xs) p
  refusal_comes m first cache status xs p is = list_refused m [] (status == 200) _ is
  refusal_comes m (next r token paged_list) cache status xs p is = list_refused m paged_list (status == 200) _ is
  refusal_comes m streaming None status xs p is = tt
  refusal_comes m streaming (Some now) status xs p is = watch_refused now.revision (status == 200) _ is
