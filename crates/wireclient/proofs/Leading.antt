-- Bytes that lead from state to state.
use Rattle.std.proofs.Common.{arith, ◌≡◌, ℕ, ◌+◌, ◌-◌, ◌<◌, ◌≤◌, Bool, true, false, cond, List, [], ◌∷◌, ◌++◌, length, take, drop, get_or, Option, Some, None, Result, Ok, Err, refl, sym, ap, subst, ◌∙◌, append_assoc, append-nil}
use Rattle.std.specs.Prelude.{IfOk, OnOk}
use Rattle.std.proofs.lemmas.List.{length-drop, take_all, take_more}
use Rattle.std.proofs.Math.Seq.{take-add}
use Rattle.wireclient.specs.Reads.{Items, CheckedAt, Steps, Reaches, ReaderRepresents, TakesIn, has_malformed, start}
use Rattle.wireclient.specs.Reply.{HeadCheck, State, broken, ReplyItem, step}
use Rattle.wireclient.specs.Views.{state_of}
use Rattle.wireclient.specs.declared.state.State as states
use Rattle.wireclient.specs.declared.state.State.TheVariants as state
use Rattle.wireclient.proofs.Closing.{broken_emitted, is_after}
use Rattle.wireclient.proofs.Determined.{reaches_once}

pub reaches_append : (s m t : State) (xs ys : List ℕ) (is ks : List ReplyItem) → Reaches s xs m is → Reaches m ys t ks → Reaches s (xs ++ ys) t (is ++ ks)
reaches_append s m t [] ys is ks h k = subst (λ (s' : State). Reaches s' ys t (is ++ ks)) h.0 (subst (λ (emitted : List ReplyItem). Reaches m ys t emitted) (sym (ap (λ (emitted : List ReplyItem). emitted ++ ks) h.1)) k)
reaches_append s m t (x ∷ xs) ys is ks h k = (
  h.0,
  h.1 ++ ks,
  h.2,
  reaches_append (step h.0 s x).0 m t xs ys h.1 ks h.3 k,
  ap (λ (emitted : List ReplyItem). emitted ++ ks) h.4 ∙ append_assoc (step h.0 s x).1 h.1 ks,
)

pub one_byte : (s t : State) (b : ℕ) (j : HeadCheck) → CheckedAt s b j → t ≡ (step j s b).0 → Reaches s (b ∷ []) t (step j s b).1
one_byte s t b j checked is = (j, [], checked, (is, refl), sym (append-nil (step j s b).1))

pub reaches_more : (s m t : State) (piece : List ℕ) (i b d : ℕ) (old new : List ReplyItem) → i < length piece → b ≡ get_or piece i d → Reaches s (take i piece) m old → Steps m b t old new → Reaches s (take (i + 1) piece) t new
reaches_more s m t piece i b d old new lt at before more =
    subst (λ (xs : List ℕ). Reaches s xs t new) (sym (take_more piece i d lt ∙ ap (λ (x : ℕ). take i piece ++ x ∷ []) (sym at)))
    (subst (λ (emitted : List ReplyItem). Reaches s (take i piece ++ b ∷ []) t emitted) (sym more.3)
    (reaches_append s m t (take i piece) (b ∷ []) old (step more.0 m b).1 before (one_byte m t b more.0 more.1 more.2)))

-- a step that asks for no check
pub plain : {A E : Type 0} (view : A → State) (r : Result A E) (s : State) (b : ℕ) (old new : List ReplyItem) → CheckedAt s b None
    → IfOk r (λ t. view t ≡ (step None s b).0) → OnOk r (new ≡ old ++ (step None s b).1) → IfOk r (λ t. Steps s b (view t) old new)
plain view (Ok t) s b old new checked is emitted = (None, checked, is, emitted)
plain view (Err e) s b old new checked is emitted = tt

same_state : {s t : State} → Some s ≡ Some t → s ≡ t
same_state is = cc

-- a byte, and then some of which nothing is emitted
pub reaches_on : (s m n t : State) (piece : List ℕ) (i b d count : ℕ) (old new : List ReplyItem) → i < length piece → b ≡ get_or piece i d
    → Reaches s (take i piece) m old → Steps m b n old new → TakesIn n (take (length piece - (i + 1)) (drop (i + 1) piece)) count t
    → (i + (1 + count) ≤ length piece) × Reaches s (take (i + (1 + count)) piece) t new
reaches_on s m n t piece i b d count old new lt at before more part =
    let long : length (drop (i + 1) piece) ≡ length piece - (i + 1) = length-drop (i + 1) piece in
    let all : take (length piece - (i + 1)) (drop (i + 1) piece) ≡ drop (i + 1) piece = take_all (length piece - (i + 1)) (drop (i + 1) piece) (omega (arith, long)) in
    let takes = subst (λ (xs : List ℕ). TakesIn n xs count t) all part in
    let counted : i + 1 + count ≡ i + (1 + count) = omega arith in
    let both = reaches_append s n t (take (i + 1) piece) (take count (drop (i + 1) piece)) new [] (reaches_more s m n piece i b d old new lt at before more) takes.1 in
    let plain = subst (λ (emitted : List ReplyItem). Reaches s (take (i + 1) piece ++ take count (drop (i + 1) piece)) t emitted) (append-nil new) both in
    (omega (arith, lt, long, takes.0), subst (λ (k : ℕ). Reaches s (take k piece) t new) counted (subst (λ (xs : List ℕ). Reaches s xs t new) (sym (take-add (i + 1) count piece)) plain))

-- a reader that has memory takes a piece: where it then stands, and what it emits
pub feed_represents : (d : Bool) (inside : State) (now : Option State) (from s : State) (bytes piece : List ℕ) (emitted : List ReplyItem)
    → cond d None (Some inside) ≡ now → d ≡ false → from ≡ inside → Reaches from piece s emitted → ReaderRepresents now bytes → ReaderRepresents (cond d None (Some s)) (bytes ++ piece)
feed_represents true inside now from s bytes piece emitted view alive is reaches represents = absurd cc
feed_represents false inside now from s bytes piece emitted view alive is reaches represents =
    (s, represents.1 ++ emitted, refl, reaches_append start represents.0 s bytes piece represents.1 emitted represents.3 (subst (λ (m : State). Reaches m piece s emitted) (is ∙ same_state (view ∙ represents.2)) reaches))

pub feed_emits : (d : Bool) (inside : State) (now : Option State) (from s : State) (bytes piece : List ℕ) (before emitted : List ReplyItem)
    → cond d None (Some inside) ≡ now → d ≡ false → from ≡ inside → Reaches from piece s emitted → ReaderRepresents now bytes → Items bytes before → Items (bytes ++ piece) (before ++ emitted)
feed_emits true inside now from s bytes piece before emitted view alive is reaches represents items = absurd cc
feed_emits false inside now from s bytes piece before emitted view alive is reaches represents items =
    let same : items.0 ≡ represents.0 = (reaches_once start items.0 represents.0 bytes before represents.1 items.1 represents.3).1 in
    (s, reaches_append start items.0 s bytes piece before emitted items.1 (subst (λ (m : State). Reaches m piece s emitted) (is ∙ same_state (view ∙ represents.2) ∙ sym same) reaches))

-- a reader of a bad byte, and no other, is refused for it
pub unbroken : (s : states.State) → (s ≡ state.Broken → ⊥) → is_after false (state_of s) ≡ false
unbroken (state.Heading bytes p) other = refl
unbroken (state.Body left bytes) other = refl
unbroken (state.Size count value text) other = refl
unbroken (state.SizeLf value text) other = refl
unbroken (state.Data left text) other = refl
unbroken (state.DataCr text) other = refl
unbroken (state.DataLf text) other = refl
unbroken (state.LastCr text) other = refl
unbroken (state.LastLf text) other = refl
unbroken state.Ended other = refl
unbroken state.Broken other = absurd (other refl)

pub feed_broken : (d : Bool) (inside : State) (now : Option State) (bytes : List ℕ) (before : List ReplyItem)
    → cond d None (Some inside) ≡ now → d ≡ false → inside ≡ broken → ReaderRepresents now bytes → Items bytes before → has_malformed before ≡ true
feed_broken true inside now bytes before view alive is represents items = absurd cc
feed_broken false inside now bytes before view alive is represents items =
    let same : items.0 ≡ represents.0 = (reaches_once start items.0 represents.0 bytes before represents.1 items.1 represents.3).1 in
    sym (broken_emitted start items.0 bytes before items.1) ∙ ap (is_after false) (same ∙ sym (same_state (view ∙ represents.2)) ∙ is)

pub feed_unbroken : (d : Bool) (inside : State) (now : Option State) (bytes : List ℕ) (before : List ReplyItem)
    → cond d None (Some inside) ≡ now → d ≡ false → is_after false inside ≡ false → ReaderRepresents now bytes → Items bytes before → has_malformed before ≡ true → ⊥
feed_unbroken true inside now bytes before view alive is represents items bad = absurd cc
feed_unbroken false inside now bytes before view alive is represents items bad =
    let same : items.0 ≡ represents.0 = (reaches_once start items.0 represents.0 bytes before represents.1 items.1 represents.3).1 in
    let emitted : is_after false items.0 ≡ has_malformed before = broken_emitted start items.0 bytes before items.1 in
    let alike : is_after false items.0 ≡ is_after false inside = ap (is_after false) (same ∙ sym (same_state (view ∙ represents.2))) in
    cc

pub dead_unread : (d : Bool) (inside : State) (now : Option State) (bytes : List ℕ) → cond d None (Some inside) ≡ now → d ≡ true → ReaderRepresents now bytes → ⊥
dead_unread true inside now bytes view dead represents = let no_state = view ∙ represents.2 in cc
dead_unread false inside now bytes view dead represents = absurd cc
