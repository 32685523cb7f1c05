-- The turns until there is a first list: no notice comes before it.
use Rattle.std.proofs.Common.{◌≡◌, ◌<◌, ◌≤◌, ◌+◌, ℕ, zero, suc, Bool, true, false, List, [], ◌∷◌, length, Option, Some, None, refl, sym, ap, ap₂, subst, ◌∙◌, arith, true≢false}
use Rattle.std.proofs.Math.Dec.{leb-zero}
use Rattle.std.specs.Io.KnownBytes.{Appends}
use Rattle.std.proofs.KnownBytes.{Appends-nil}
use Rattle.indexer.specs.Objects.{Stored}
use Rattle.wireclient.specs.Reads.{start}
use Rattle.wireclient.specs.Reply.{ReplyItem}
use Rattle.reflector.specs.Client.{Cache, Client, Notice}
use Rattle.reflector.specs.Requests.{Settings}
use Rattle.reflector.specs.RelistReasons.{relist_reason_after}
use Rattle.reflector.specs.Run.{asked, closed, receives_all, taken}
use Rattle.reflector.specs.declared.informer.Informer.{Informer}
use Rattle.reflector.specs.declared.relist_reason.RelistReason.{RelistReason}
use Rattle.mirroring.specs.Printing.{mirror_text}
use Rattle.mirroring.specs.Syncs.{Hands, SyncsSome, all_replied, has_reached, replied}
use Rattle.mirroring.specs.Turns.{Is, MirrorsPrefix, MirrorsSoFar, MirrorsSome, Turns, WritesPrefix, first_with, synced_by}
use Rattle.mirroring.proofs.Ahead.{closed_keeps}
use Rattle.mirroring.proofs.FirstList.{all_before}
use Rattle.mirroring.proofs.Replies.{idle_after}
use Rattle.mirroring.proofs.Texts.{prefix_none}

-- no list is whole yet
none_yet : (o : Option Cache) → has_reached zero o ≡ false → o ≡ None
none_yet None is = refl
none_yet (Some now) is = absurd (true≢false (sym (leb-zero now.revision) ∙ is))

synced_none : (o : Option Cache) → synced_by o None ≡ None
synced_none None = refl
synced_none (Some now) = refl

synced_same : (o : Option Cache) → synced_by o o ≡ None
synced_same None = refl
synced_same (Some now) = refl

module _ {D : Type 0} (answers : D → List ℕ → List ℕ → D → Type 0) (learns : D → RelistReason → D → Type 0) (s : Settings) where
  -- what waits of a reply where nothing was kept
  quiet : (c : Client) (items : List ReplyItem) → c.cache ≡ None → c.notices ≡ [] → (replied s.wanted c items).cache ≡ None → (replied s.wanted c items).notices ≡ []
  quiet c items none waits still =
      let now : Client = receives_all s.wanted (asked c) items in
      let keeps = closed_keeps now in
      keeps.2 ∙ (all_before s.wanted (asked c) items (λ _. waits, λ _. none)).0 (sym keeps.1 ∙ still)

  turns_then : (n k : ℕ) (p a b : D) (e c : Client) (first : Option ℕ) (replies : List (List ReplyItem)) → Turns answers learns s n p e a c first → first ≡ synced_by e.cache c.cache → (c.cache ≡ None → e.cache ≡ None)
      → (c.cache ≡ None → c.notices ≡ []) → k ≡ n + length replies → Hands answers learns s zero a c replies b
      → Turns answers learns s k p e b (all_replied s.wanted c replies) (synced_by e.cache (all_replied s.wanted c replies).cache) × ((all_replied s.wanted c replies).cache ≡ None → (all_replied s.wanted c replies).notices ≡ [])
  turns_then n k p a b e c first [] did is was waits many same =
      let all : k ≡ n = omega (arith, many) in
      (subst (λ (j : ℕ). Turns answers learns s j p e b c (synced_by e.cache c.cache)) (sym all) (subst (λ (f : Option ℕ). Turns answers learns s n p e b c f) is (subst (λ (x : D). Turns answers learns s n p e x c first) (sym same) did)), waits)
  turns_then n k p a b e c first (items ∷ replies) did is was waits many (behind, bytes, mid, after, answered, held, learnt, others) =
      let d : Client = replied s.wanted c items in
      let none : c.cache ≡ None = none_yet c.cache behind in
      let empty : e.cache ≡ None = was none in
      let before : first ≡ None = is ∙ ap₂ (λ (x y : Option Cache). synced_by x y) empty none in
      let then : first_with first c.cache d.cache ≡ synced_by e.cache d.cache = ap₂ (λ (f : Option ℕ) (o : Option Cache). first_with f o d.cache) before none ∙ ap (λ (o : Option Cache). synced_by o d.cache) (sym empty) in
      turns_then (suc n) k p after b e d (first_with first c.cache d.cache) replies
      (a, c, first, did, mid, relist_reason_after s.wanted (asked c) None items, (bytes, items, answered, held, refl, refl), learnt, refl) then (λ _. empty)
      (quiet c items none (waits none)) (omega (arith, many)) others

  module _ (a b : D) (c : Client) (replies : List (List ReplyItem)) (none : c.notices ≡ []) (hands : Hands answers learns s zero a c replies b) where
    abbrev now : Client
    now = all_replied s.wanted c replies

    made : Turns answers learns s (length replies) a c b now (synced_by c.cache now.cache) × (now.cache ≡ None → now.notices ≡ [])
    made = turns_then zero (length replies) a a b c c None replies (refl, refl, refl) (sym (synced_same c.cache)) (λ is. is) (λ _. none) (omega arith) hands

    first_none : now.cache ≡ None → (synced_by c.cache now.cache ≡ None) × (now.notices ≡ [])
    first_none is = (ap (synced_by c.cache) is ∙ synced_none c.cache, made.1 is)

    -- nothing is told while there is no list
    none_told : now.cache ≡ None → mirror_text (synced_by c.cache now.cache) now.notices ≡ []
    none_told is = ap₂ (λ (f : Option ℕ) (ns : List Notice). mirror_text f ns) (first_none is).0 (first_none is).1

    -- the part of the last reply
    last_part : (n turns : ℕ) (x y : Option (List ℕ)) → length replies ≡ suc n → length replies ≤ turns → WritesPrefix x y (mirror_text (synced_by c.cache now.cache) now.notices) → MirrorsPrefix answers learns s turns a c x y
    last_part n turns x y many most prefix = go (subst (λ (k : ℕ). Turns answers learns s k a c b now (synced_by c.cache now.cache)) many made.0)
      where
        go : Turns answers learns s (suc n) a c b now (synced_by c.cache now.cache) → MirrorsPrefix answers learns s turns a c x y
        go (mid, m, before, did, next, t, (bytes, items, answered, is, same, why), learnt, first) =
            let d : Client = receives_all s.wanted (asked m) items in
            let keeps = closed_keeps d in
            let cached : now.cache ≡ d.cache = ap (λ (z : Client). z.cache) same ∙ keeps.1 in
            let waiting : now.notices ≡ d.notices = ap (λ (z : Client). z.notices) same ∙ keeps.2 in
            let text : mirror_text (synced_by c.cache now.cache) now.notices ≡ mirror_text (first_with before m.cache d.cache) d.notices =
            ap₂ (λ (f : Option ℕ) (ns : List Notice). mirror_text f ns) (first ∙ ap (first_with before m.cache) cached) waiting in
            (n, omega (arith, many, most), mid, m, before, did, d, (bytes, items, is, refl), subst (WritesPrefix x y) text prefix)

    -- all of it told
    pub so_far : {I : Type 0} (keys : I → Stored → List (List ℕ)) (n : ℕ) (i : Informer I) (x y : Option (List ℕ)) → length replies ≡ n → c.is_awaiting_reply ≡ false → Is keys i (taken now)
        → Appends x y (mirror_text (synced_by c.cache now.cache) now.notices) → MirrorsSoFar keys answers learns s n a c b i x y
    so_far keys n i x y many idle runs emitted =
        (now, synced_by c.cache now.cache, subst (λ (k : ℕ). Turns answers learns s k a c b now (synced_by c.cache now.cache)) many made.0, runs, idle_after s.wanted c replies idle, first_none, emitted)

    -- none was needed
    pub none_taken : {I : Type 0} (keys : I → Stored → List (List ℕ)) (i : Informer I) (x : Option (List ℕ)) → length replies ≡ zero → c.is_awaiting_reply ≡ false → Is keys i now → MirrorsSoFar keys answers learns s zero a c b i x x
    none_taken keys i x many idle runs = so_far keys zero i x x many idle (still replies many none runs) (subst (Appends x x) (sym (silent replies many none)) (Appends-nil x))
      where
        still : (rs : List (List ReplyItem)) → length rs ≡ zero → c.notices ≡ [] → Is keys i (all_replied s.wanted c rs) → Is keys i (taken (all_replied s.wanted c rs))
        still [] e is at = subst (λ (ns : List Notice). Is keys i (record { cache = c.cache; sync = c.sync; is_awaiting_reply = c.is_awaiting_reply; notices = ns })) is at
        still (r ∷ rs) e is at = absurd (omega (arith, e))

        silent : (rs : List (List ReplyItem)) → length rs ≡ zero → c.notices ≡ [] → mirror_text (synced_by c.cache (all_replied s.wanted c rs).cache) (all_replied s.wanted c rs).notices ≡ []
        silent [] e is = ap₂ (λ (f : Option ℕ) (ns : List Notice). mirror_text f ns) (synced_same c.cache) is
        silent (r ∷ rs) e is = absurd (omega (arith, e))

    pub some_told : (k turns : ℕ) (x y : Option (List ℕ)) → length replies ≡ k → zero < k → length replies ≤ turns → WritesPrefix x y (mirror_text (synced_by c.cache now.cache) now.notices) → MirrorsPrefix answers learns s turns a c x y
    some_told zero turns x y many some most prefix = absurd (omega (arith, some))
    some_told (suc n) turns x y many some most prefix = last_part n turns x y many most prefix

    -- fewer turns, and a fault in the next one
    faulty : (turns : ℕ) (x : Option (List ℕ)) → length replies < turns → MirrorsPrefix answers learns s turns a c x x
    faulty turns x fewer = (length replies, fewer, b, now, synced_by c.cache now.cache, made.0, asked now, ([], [], (start, (refl, refl)), refl), prefix_none x _)

    undialled_after : {I : Type 0} (keys : I → Stored → List (List ℕ)) (turns : ℕ) (i : Informer I) (x : Option (List ℕ)) → length replies < turns → has_reached zero now.cache ≡ false → Is keys i (closed (asked now))
        → MirrorsSome keys answers learns s turns a c i x x
    undialled_after keys turns i x fewer behind runs =
        let gone : now.cache ≡ None = none_yet now.cache behind in
        let is : Is keys i (closed (asked (taken now))) = subst (λ (ns : List Notice). Is keys i (closed (asked (record { cache = now.cache; sync = now.sync; is_awaiting_reply = now.is_awaiting_reply; notices = ns })))) (made.1 gone) runs in
        (length replies, fewer, b, now, synced_by c.cache now.cache, made.0, is, subst (Appends x x) (sym (none_told gone)) (Appends-nil x))

  pub fault_before : {I : Type 0} (keys : I → Stored → List (List ℕ)) (turns : ℕ) (a : D) (c : Client) (i : Informer I) (x : Option (List ℕ)) (is_undialled : Bool) → c.notices ≡ []
      → SyncsSome keys answers learns s zero turns a c i is_undialled → MirrorsPrefix answers learns s turns a c x x
  fault_before keys turns a c i x is_undialled none (replies, part, b, d, hands, behind, fewer, left, undialled, follows) = faulty a b c replies none hands turns x fewer

  pub undialled_before : {I : Type 0} (keys : I → Stored → List (List ℕ)) (turns : ℕ) (a : D) (c : Client) (i : Informer I) (x : Option (List ℕ)) (is_undialled : Bool) → c.notices ≡ []
      → SyncsSome keys answers learns s zero turns a c i is_undialled → is_undialled ≡ true → MirrorsSome keys answers learns s turns a c i x x
  undialled_before keys turns a c i x is_undialled none (replies, part, b, d, hands, behind, fewer, left, undialled, follows) is =
      undialled_after a b c replies none hands keys turns i x fewer behind (subst (Is keys i) (undialled is) left.4)
