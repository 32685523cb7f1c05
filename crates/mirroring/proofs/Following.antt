-- Turns that follow one another.
use Rattle.std.proofs.Common.{◌≡◌, ℕ, suc, Bool, false, cond, List, [], ◌++◌, Option, Some, None, Result, Ok, Err, is_some, refl, sym, ap, ap₂, subst, ◌∙◌}
use Rattle.std.specs.Prelude.{◌<◌, OnErr, OnOk}
use Rattle.std.specs.Io.KnownBytes.{Appends}
use Rattle.indexer.specs.Objects.{Stored}
use Rattle.wireclient.specs.Reply.{ReplyItem}
use Rattle.decoder.specs.Wanted.{Wanted}
use Rattle.reflector.specs.Client.{Cache, Client, Notice}
use Rattle.reflector.specs.InformerViews.{InformerRepresents, due, relist_reason_in}
use Rattle.reflector.specs.Requests.{Settings, request_of}
use Rattle.reflector.specs.Run.{asked, closed, receives_all, taken}
use Rattle.reflector.specs.declared.informer.Informer.{Informer}
use Rattle.reflector.specs.declared.relist_reason.RelistReason.{RelistReason}
use Rattle.mirroring.specs.Printing.{mirror_text}
use Rattle.mirroring.specs.Turns.{Answers, Is, LearnsReason, MirrorsPrefix, MirrorsOnce, Turns, first_with, synced_by, text_between}
use Rattle.mirroring.specs.Pieces.{ReceivedPrefix, ReceivedSoFar}
use Rattle.mirroring.proofs.Ahead.{ahead, all_ahead, all_taken, closed_ahead, closed_keeps, closed_taken, relist_reason_taken}
use Rattle.mirroring.proofs.FirstList.{all_kept}
use Rattle.mirroring.proofs.Texts.{prefix_after, kept_not_none, none_before, text_after, written_after}

-- the request of a client that asks nothing now
pub due_now : (s : Settings) (c : Client) (bytes : List ℕ) → c.is_awaiting_reply ≡ false → Some bytes ≡ due s c → bytes ≡ request_of s c
due_now s c bytes idle is = let now : Some bytes ≡ Some (request_of s c) = is ∙ ap (λ (b : Bool). cond b None (Some (request_of s c))) idle in cc

-- there is one
pub not_none_due : (s : Settings) (c : Client) → c.is_awaiting_reply ≡ false → None ≡ due s c → ⊥
not_none_due s c idle is = let none : None ≡ Some (request_of s c) = is ∙ ap (λ (b : Bool). cond b None (Some (request_of s c))) idle in cc

-- ---- one turn

pub prefix_same : {T E : Type 0} (r : Result T E) (other wanted : Wanted) (c : Client) (a b : Option (List ℕ)) → other ≡ wanted → OnErr r (ReceivedPrefix other c a b) → OnErr r (ReceivedPrefix wanted c a b)
prefix_same r other wanted c a b same received = subst (λ (w : Wanted). OnErr r (ReceivedPrefix w c a b)) same received

mirrors_once : {I D R : Type 0} (keys : I → Stored → List (List ℕ)) (dials : D → List ℕ → R → D → Type 0) (remaining : R → Option (List ℕ)) (s : Settings) (p q : D) (c : Client) (reader left : R)
    (i j : Informer I) (a b : Option (List ℕ)) → dials p (request_of s c) reader q
    → ((e : Client) (bytes : List ℕ) (emitted : List ReplyItem) → InformerRepresents keys i e bytes emitted → InformerRepresents keys j (closed e) bytes emitted) → relist_reason_in j ≡ relist_reason_in i
    → ReceivedSoFar keys s.wanted c i (remaining reader) (remaining left) a b → MirrorsOnce keys (Answers dials remaining) s p c q j a b
mirrors_once keys dials remaining s p q c reader left i j a b dialled closes still (bytes, items, is, read, runs, written, why) =
    let now : Client = receives_all s.wanted (asked c) items in
    let keeps = closed_keeps now in (
      closed now,
      (bytes, items, (reader, left, dialled, read), is, refl, still ∙ why),
      (bytes, items, subst (λ (e : Client). InformerRepresents keys j e bytes items) (closed_taken now) (closes (taken now) bytes items runs)),
      subst (Appends a b) (ap₂ (λ (z : Option Cache) (ns : List Notice). mirror_text (synced_by c.cache z) ns) (sym keeps.1) (sym keeps.2)) written,
    )

pub turns_once : {I D R T E : Type 0} (r : Result T E) (keys : I → Stored → List (List ℕ)) (dials : D → List ℕ → R → D → Type 0) (remaining : R → Option (List ℕ)) (other s : Settings) (p q : D) (c : Client)
    (reader left : R) (i j : Informer I) (a b : Option (List ℕ)) → other ≡ s → dials p (request_of s c) reader q
    → ((e : Client) (bytes : List ℕ) (emitted : List ReplyItem) → InformerRepresents keys i e bytes emitted → InformerRepresents keys j (closed e) bytes emitted) → relist_reason_in j ≡ relist_reason_in i
    → OnOk r (ReceivedSoFar keys other.wanted c i (remaining reader) (remaining left) a b) → OnOk r (MirrorsOnce keys (Answers dials remaining) s p c q j a b)
turns_once (Ok x) keys dials remaining other s p q c reader left i j a b same dialled closes still received =
    mirrors_once keys dials remaining s p q c reader left i j a b dialled closes still
    (subst (λ (w : Settings). ReceivedSoFar keys w.wanted c i (remaining reader) (remaining left) a b) same received)
turns_once (Err e) keys dials remaining other s p q c reader left i j a b same dialled closes still received = tt

pub once_same : {I D : Type 0} (keys : I → Stored → List (List ℕ)) (answers : D → List ℕ → List ℕ → D → Type 0) (other s : Settings) (p : D) (c : Client) (q : D) (i : Informer I) (a b : Option (List ℕ))
    → other ≡ s → MirrorsOnce keys answers other p c q i a b → MirrorsOnce keys answers s p c q i a b
once_same keys answers other s p c q i a b same once = subst (λ (w : Settings). MirrorsOnce keys answers w p c q i a b) same once

pub part_same : (other wanted : Wanted) (c : Client) (a b : Option (List ℕ)) → other ≡ wanted → ReceivedPrefix other c a b → ReceivedPrefix wanted c a b
part_same other wanted c a b same received = subst (λ (w : Wanted). ReceivedPrefix w c a b) same received

-- ---- a turn after others

module _ {D : Type 0} (answers : D → List ℕ → List ℕ → D → Type 0) (learns : D → RelistReason → D → Type 0) (s : Settings) (m : Client) where
  -- no notice came before the first list
  abbrev pub IsFirst : Option ℕ → Client → Type 0
  IsFirst first c = c.cache ≡ None → (first ≡ None) × (c.notices ≡ [])

  part_ahead : (items : List ReplyItem) → receives_all s.wanted (asked m) items ≡ ahead m.notices (receives_all s.wanted (asked (taken m)) items)
  part_ahead items = ap (λ (d : Client). receives_all s.wanted d items) (sym (all_taken (asked m))) ∙ all_ahead m.notices s.wanted (asked (taken m)) items

  none_kept : (items : List ReplyItem) → (receives_all s.wanted (asked (taken m)) items).cache ≡ None → m.cache ≡ None
  none_kept items is = go m.cache refl
    where
      go : (o : Option Cache) → m.cache ≡ o → o ≡ None
      go None at = refl
      go (Some x) at = kept_not_none _ (all_kept s.wanted (asked (taken m)) items (ap is_some at)) is _

  first_none : (first : Option ℕ) (b z : Option Cache) → first ≡ None → b ≡ None → z ≡ None → first_with first b z ≡ None
  first_none None None None f is at = refl
  first_none None None (Some x) f is at = absurd cc
  first_none None (Some x) z f is at = absurd cc
  first_none (Some r) b z f is at = absurd cc

  -- what is told after it, by a turn that starts without notices
  text_then : (first : Option ℕ) → IsFirst first m → (d e : Client) → d ≡ ahead m.notices e
      → mirror_text first m.notices ++ text_between (taken m) e ≡ mirror_text (first_with first m.cache d.cache) d.notices
  text_then first before d e is =
      text_after first m.cache e.cache m.notices e.notices before ∙ sym (ap (λ (x : Client). mirror_text (first_with first m.cache x.cache) x.notices) is)

  pub prefix_then : (n turns : ℕ) (p mid : D) (c : Client) (first : Option ℕ) (a b d : Option (List ℕ)) → n < turns → Turns answers learns s n p c mid m first → IsFirst first m
      → Appends a b (mirror_text first m.notices) → ReceivedPrefix s.wanted (taken m) b d → MirrorsPrefix answers learns s turns p c a d
  prefix_then n turns p mid c first a b d fewer did before emitted (bytes, items, is, prefix) =
      let e : Client = receives_all s.wanted (asked m) items in (
        n,
        fewer,
        mid,
        m,
        first,
        did,
        e,
        (bytes, items, is, refl),
        prefix_after a b d _ _ _ (text_then first before e (receives_all s.wanted (asked (taken m)) items) (part_ahead items)) emitted prefix,
      )

  pub mirrors_then : {I : Type 0} (keys : I → Stored → List (List ℕ)) (n k : ℕ) (p mid next q : D) (c : Client) (first : Option ℕ) (i : Informer I) (a b d : Option (List ℕ)) → k ≡ suc n
      → Turns answers learns s n p c mid m first → IsFirst first m → Appends a b (mirror_text first m.notices) → MirrorsOnce keys answers s mid (taken m) next i b d → LearnsReason learns (relist_reason_in i) next q
      → (e : Client) × (f : Option ℕ) × Turns answers learns s k p c q e f × Is keys i (taken e) × (e.is_awaiting_reply ≡ false) × IsFirst f e × Appends a d (mirror_text f e.notices)
  mirrors_then keys n k p mid next q c first i a b d more did before emitted (e, (bytes, items, answered, is, same, why), runs, written) learnt =
      let now : Client = receives_all s.wanted (asked (taken m)) items in
      let keeps = closed_keeps now in
      let x : Client = ahead m.notices e in
      let whole : x ≡ closed (receives_all s.wanted (asked m) items) =
      ap (ahead m.notices) same ∙ sym (closed_ahead m.notices now) ∙ ap closed (sym (part_ahead items)) in (
        x,
        first_with first m.cache x.cache,
        subst (λ (j : ℕ). Turns answers learns s j p c q x (first_with first m.cache x.cache)) (sym more)
            (mid, m, first, did, next, relist_reason_in i, (bytes, items, answered, is, whole, why ∙ relist_reason_taken s.wanted (asked m) None items), learnt, refl),
        runs,
        ap (λ (y : Client). y.is_awaiting_reply) same ∙ keeps.0,
        λ none.
            let gone : now.cache ≡ None = sym keeps.1 ∙ sym (ap (λ (y : Client). y.cache) same) ∙ none in
            let was : m.cache ≡ None = none_kept items gone in
            let had = before was in
            let new : e.notices ≡ [] = ap (λ (y : Client). y.notices) same ∙ keeps.2 ∙ none_before s.wanted (taken m) items [] refl gone in
            (first_none first m.cache x.cache had.0 was none, ap₂ (λ (u v : List Notice). u ++ v) had.1 new),
        written_after a b d _ _ _ (text_then first before x e refl) emitted written,
      )
