-- The kept changes have the same states and the same view.
use Rattle.std.proofs.Common.{◌≡◌, ℕ, ◌<◌, ◌≤◌, Bool, true, false, cond, not, ◌&&◌, ◌||◌, List, [], ◌∷◌, refl, sym, ap, ◌∙◌, Option, Some, None, arith, is_some}
use Rattle.std.proofs.Common.{ltb-true, ltb-false, le-leb, true≢false, zero-le}
use Rattle.std.proofs.lemmas.Bool.{lt-leb}
use Rattle.std.specs.Prelude.{nat_le, nat_lt}
use Rattle.std.specs.FinMap as fin
use Rattle.history.specs.History.{Key, key_cmp, Object, Objects, Change, History, IsHistory, object_by, left_by, is_same_key, put_or_remove, changed, up_to, later, state_at, IsRising}
use Rattle.history.specs.Kept.{kept, pruned}
use Rattle.history.specs.View.{IsView, view, state_in}
use Rattle.history.proofs.Keys.{same, tied, get-put_or_remove}
use Rattle.history.proofs.Revisions.{up_to-keeps, up_to-split, later-drops, rising-later, changed-append}
use Rattle.history.proofs.CurrentObjects.{has_later, kept_by, kept_is}

-- the last word of these changes on a key
abbrev pub last_of : Key → Option Object → List Change → Option Object
last_of q o [] = o
last_of q o (d ∷ cs) = last_of q (cond (is_same_key q d.key) (left_by d) o) cs

pub get-changed : (s : Objects) (cs : List Change) (q : Key) → fin.get (changed s cs) q ≡ last_of q (fin.get s q) cs
get-changed s [] q = refl
get-changed s (d ∷ cs) q = get-changed (put_or_remove s d.key (left_by d)) cs q ∙ ap (λ o. last_of q o cs) (get-put_or_remove s d.key (left_by d) q)

pub none_later : (c lo top : ℕ) (q : Key) (cs : List Change) → c ≤ lo → IsRising lo cs top → has_later c q cs ≡ false
none_later c lo top q [] h rise = refl
none_later c lo top q (d ∷ cs) h rise =
    let a : lo < d.revision = rise.0 in
    ap (λ b. (b && is_same_key q d.key) || has_later c q cs) (lt-leb d.revision c (omega arith)) ∙ none_later c d.revision top q cs (omega arith) rise.1

-- a change up to c: e is whether it is of the key, s whether a later one up to c is
module _ (e s : Bool) (body old1 old2 : Option Object) (alike : (e || s) ≡ false → old1 ≡ old2) (none : (e || s) ≡ true → old1 ≡ None) where
  keeps_alike : s ≡ false → cond e body old1 ≡ cond e body old2
  keeps_alike h = go e refl
    where
      go : (b : Bool) → e ≡ b → cond b body old1 ≡ cond b body old2
      go true t = refl
      go false t = alike (rw (t, h) refl)

  keeps_none : (e ≡ true → s ≡ false) → s ≡ true → cond e body old1 ≡ None
  keeps_none last h = go e refl
    where
      go : (b : Bool) → e ≡ b → cond b body old1 ≡ None
      go true t = absurd (true≢false (sym h ∙ last t))
      go false t = none (rw (t, h) refl)

  drops_alike : (e ≡ true → s ≡ false → body ≡ None) → s ≡ false → old1 ≡ cond e body old2
  drops_alike gone h = go e refl
    where
      go : (b : Bool) → e ≡ b → old1 ≡ cond b body old2
      go true t = none (rw t refl) ∙ sym (gone t h)
      go false t = alike (rw (t, h) refl)

  drops_none : s ≡ true → old1 ≡ None
  drops_none h = go e refl
    where
      go : (b : Bool) → e ≡ b → old1 ≡ None
      go true t = none (rw t refl)
      go false t = none (rw (t, h) refl)

kept_not : (body : Option (List ℕ)) (s : Bool) → (is_some body && not s) ≡ true → s ≡ false
kept_not None s h = absurd (true≢false (sym h))
kept_not (Some t) true h = absurd (true≢false (sym h))
kept_not (Some t) false h = refl

dropped_none : (body : Option (List ℕ)) (s : Bool) → (is_some body && not s) ≡ false → s ≡ false → body ≡ None
dropped_none None s h g = refl
dropped_none (Some t) true h g = absurd (true≢false g)
dropped_none (Some t) false h g = absurd (true≢false h)

abbrev Others : ℕ → ℕ → Key → List Change → Type 0
Others c r q cs =
    (new1 new2 : Option Object) → (has_later c q cs ≡ false → new1 ≡ new2) → (has_later c q cs ≡ true → new1 ≡ None) → last_of q new1 (up_to r (kept_by c cs)) ≡ last_of q new2 (up_to r cs)

-- a change after c is kept
kept_above : (c r top : ℕ) (q : Key) (old1 old2 : Option Object) (d : Change) (cs : List Change) → c < d.revision → IsRising d.revision cs top → old1 ≡ old2 → Others c r q cs
    → last_of q old1 (up_to r (d ∷ kept_by c cs)) ≡ last_of q old2 (up_to r (d ∷ cs))
kept_above c r top q old1 old2 d cs h rise is others = go (nat_le d.revision r)
  where
    apart : has_later c q cs ≡ false
    apart = none_later c d.revision top q cs (omega arith) rise

    go : (b : Bool) → last_of q old1 (cond b (d ∷ up_to r (kept_by c cs)) (up_to r (kept_by c cs))) ≡ last_of q old2 (cond b (d ∷ up_to r cs) (up_to r cs))
    go true = others (cond (is_same_key q d.key) (left_by d) old1) (cond (is_same_key q d.key) (left_by d) old2) (λ _. ap (cond (is_same_key q d.key) (left_by d)) is) (λ t. absurd (true≢false (sym t ∙ apart)))
    go false = others old1 old2 (λ _. is) (λ t. absurd (true≢false (sym t ∙ apart)))

-- a change up to c is kept where it has a body and no later one up to c
kept_below : (c r : ℕ) (q : Key) (old1 old2 : Option Object) (d : Change) (cs : List Change) → d.revision ≤ c → c ≤ r
    → ((is_same_key q d.key || has_later c q cs) ≡ false → old1 ≡ old2) → ((is_same_key q d.key || has_later c q cs) ≡ true → old1 ≡ None) → Others c r q cs
    → last_of q old1 (up_to r (cond (is_some d.body && not (has_later c d.key cs)) (d ∷ kept_by c cs) (kept_by c cs))) ≡ last_of q old2 (up_to r (d ∷ cs))
kept_below c r q old1 old2 d cs low le alike none others = go (is_some d.body && not (has_later c d.key cs)) refl
  where
    within : d.revision ≤ r
    within = omega arith

    same_key : is_same_key q d.key ≡ true → has_later c q cs ≡ has_later c d.key cs
    same_key t = ap (λ k. has_later c k cs) (tied q d.key t)

    go : (b : Bool) → (is_some d.body && not (has_later c d.key cs)) ≡ b → last_of q old1 (up_to r (cond b (d ∷ kept_by c cs) (kept_by c cs))) ≡ last_of q old2 (up_to r (d ∷ cs))
    go true t =
        ap (last_of q old1) (up_to-keeps r d (kept_by c cs) within)
        ∙ others (cond (is_same_key q d.key) (left_by d) old1) (cond (is_same_key q d.key) (left_by d) old2)
        (keeps_alike (is_same_key q d.key) (has_later c q cs) (left_by d) old1 old2 alike none)
        (keeps_none (is_same_key q d.key) (has_later c q cs) (left_by d) old1 old2 alike none (λ u. same_key u ∙ kept_not d.body (has_later c d.key cs) t))
        ∙ ap (last_of q old2) (sym (up_to-keeps r d cs within))
    go false t =
        others old1 (cond (is_same_key q d.key) (left_by d) old2)
        (drops_alike (is_same_key q d.key) (has_later c q cs) (left_by d) old1 old2 alike none (λ u v. ap (object_by d.revision) (dropped_none d.body (has_later c d.key cs) t (sym (same_key u) ∙ v))))
        (drops_none (is_same_key q d.key) (has_later c q cs) (left_by d) old1 old2 alike none)
        ∙ ap (last_of q old2) (sym (up_to-keeps r d cs within))

kept_last : (c r lo top : ℕ) (q : Key) (old1 old2 : Option Object) (cs : List Change) → c ≤ r → IsRising lo cs top
    → (has_later c q cs ≡ false → old1 ≡ old2) → (has_later c q cs ≡ true → old1 ≡ None) → last_of q old1 (up_to r (kept_by c cs)) ≡ last_of q old2 (up_to r cs)
kept_last c r lo top q old1 old2 [] le rise alike none = alike refl
kept_last c r lo top q old1 old2 (d ∷ cs) le rise alike none =
    go (nat_lt c d.revision) refl (λ new1 new2. kept_last c r d.revision top q new1 new2 cs le rise.1)
  where
    go : (b : Bool) → nat_lt c d.revision ≡ b → Others c r q cs
        → last_of q old1 (up_to r (cond (b || (is_some d.body && not (has_later c d.key cs))) (d ∷ kept_by c cs) (kept_by c cs))) ≡ last_of q old2 (up_to r (d ∷ cs))
    go true t others =
        let above : c < d.revision = ltb-true _ _ t in
        let apart : has_later c q cs ≡ false = none_later c d.revision top q cs (omega arith) rise.1 in
        kept_above c r top q old1 old2 d cs above rise.1 (alike (ap (λ b. (b && is_same_key q d.key) || has_later c q cs) (lt-leb d.revision c above) ∙ apart)) others
    go false t others =
        let low : d.revision ≤ c = ltb-false _ _ t in
        let is : has_later c q (d ∷ cs) ≡ (is_same_key q d.key || has_later c q cs) = ap (λ b. (b && is_same_key q d.key) || has_later c q cs) (le-leb d.revision c low) in
        kept_below c r q old1 old2 d cs low le (λ h. alike (is ∙ h)) (λ h. none (is ∙ h)) others

by_states : (c r top : ℕ) (cs : List Change) → IsRising 0 cs top → c ≤ r → state_at (kept_by c cs) r ≡ state_at cs r
by_states c r top cs rise h = same _ _ (λ q.
    get-changed fin.empty (up_to r (kept_by c cs)) q
    ∙ kept_last c r 0 top q (fin.get fin.empty q) (fin.get fin.empty q) cs h rise (λ _. refl) (λ _. fin.get-empty key_cmp q)
    ∙ sym (get-changed fin.empty (up_to r cs) q))

by_later : (c r : ℕ) (cs : List Change) → c ≤ r → later r (kept_by c cs) ≡ later r cs
by_later c r [] h = refl
by_later c r (d ∷ cs) h = go (nat_lt c d.revision) refl (is_some d.body && not (has_later c d.key cs)) (by_later c r cs h)
  where
    go : (b : Bool) → nat_lt c d.revision ≡ b → (k : Bool) → later r (kept_by c cs) ≡ later r cs → later r (cond (b || k) (d ∷ kept_by c cs) (kept_by c cs)) ≡ later r (d ∷ cs)
    go true t k is = ap (λ ds. cond (nat_lt r d.revision) (d ∷ ds) ds) is
    go false t true is = ap (λ ds. cond (nat_lt r d.revision) (d ∷ ds) ds) is
    go false t false is = let low : d.revision ≤ c = ltb-false _ _ t in is ∙ sym (later-drops r d cs (omega arith))

-- from the compacted number on, the kept changes have the same states and the same later changes
pub kept_states : (c r top : ℕ) (cs : List Change) → IsRising 0 cs top → c ≤ r → state_at (kept c cs) r ≡ state_at cs r
kept_states c r top cs rise h = ap (λ ds. state_at ds r) (kept_is c 0 top cs rise) ∙ by_states c r top cs rise h

pub kept_later : (c r top : ℕ) (cs : List Change) → IsRising 0 cs top → c ≤ r → later r (kept c cs) ≡ later r cs
kept_later c r top cs rise h = ap (later r) (kept_is c 0 top cs rise) ∙ by_later c r cs h

pub state_in_is : (c r top : ℕ) (cs : List Change) → IsRising 0 cs top → c ≤ r → changed (state_at cs c) (up_to r (later c cs)) ≡ state_at cs r
state_in_is c r top cs rise h = sym (changed-append fin.empty (up_to c cs) (up_to r (later c cs))) ∙ ap (changed fin.empty) (sym (up_to-split 0 c r top cs h rise))

-- the view gives each state from the compacted number on
pub view_states : (h : History) (r : ℕ) → IsHistory h → h.compacted ≤ r → state_in (view h) r ≡ state_at h.changes r
view_states h r is above = state_in_is h.compacted r h.current h.changes is.rising above

pub sound_view : (h : History) → IsHistory h → IsView (view h)
sound_view h is = record { rising = rising-later 0 h.compacted h.current h.changes zero-le is.low is.rising; high = is.high }

-- the view depends on the kept changes and the two numbers alone
pub kept_view : (h : History) → IsHistory h → view (pruned h.compacted h) ≡ view h
kept_view h is = rw (kept_states h.compacted h.compacted h.current h.changes is.rising (omega arith), kept_later h.compacted h.compacted h.current h.changes is.rising (omega arith)) refl
