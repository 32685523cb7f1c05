-- The kept changes after a write and after a further compaction.
use Rattle.std.proofs.Common.{◌≡◌, ℕ, suc, ◌<◌, ◌≤◌, Bool, true, false, cond, not, ◌&&◌, ◌||◌, List, [], ◌∷◌, ◌++◌, refl, sym, ap, ◌∙◌, Option, arith, is_some}
use Rattle.std.proofs.Common.{ltb-true, ltb-false, le-leb, le-ltb, lt-ltb, leb-true, zero-le, true≢false}
use Rattle.std.proofs.lemmas.Bool.{lt-leb}
use Rattle.std.specs.Prelude.{nat_le, nat_lt}
use Rattle.history.specs.History.{Key, Change, History, IsHistory, is_same_key, IsRising, fresh, written, last_revision}
use Rattle.history.specs.Kept.{kept, pruned, IsPruned}
use Rattle.history.proofs.Revisions.{rising-push, rising-filter}
use Rattle.history.proofs.CurrentObjects.{has_later, kept_by, kept_is}
use Rattle.history.proofs.Views.{none_later}

-- ---- a write

later-push : (c : ℕ) (k : Key) (cs : List Change) (d : Change) → c < d.revision → has_later c k (cs ++ d ∷ []) ≡ has_later c k cs
later-push c k [] d h = ap (λ b. (b && is_same_key k d.key) || false) (lt-leb d.revision c h)
later-push c k (e ∷ cs) d h = ap (λ b. (nat_le e.revision c && is_same_key k e.key) || b) (later-push c k cs d h)

by_push : (c : ℕ) (cs : List Change) (d : Change) → c < d.revision → kept_by c (cs ++ d ∷ []) ≡ kept_by c cs ++ d ∷ []
by_push c [] d h = ap (λ b. cond (b || (is_some d.body && true)) (d ∷ []) []) (lt-ltb c d.revision h)
by_push c (e ∷ cs) d h =
    ap (λ b. cond (nat_lt c e.revision || (is_some e.body && not b)) (e ∷ kept_by c (cs ++ d ∷ [])) (kept_by c (cs ++ d ∷ []))) (later-push c e.key cs d h)
    ∙ ap (λ l. cond (nat_lt c e.revision || (is_some e.body && not (has_later c e.key cs))) (e ∷ l) l) (by_push c cs d h)
    ∙ moved (nat_lt c e.revision || (is_some e.body && not (has_later c e.key cs)))
  where
    moved : (b : Bool) → cond b (e ∷ kept_by c cs ++ d ∷ []) (kept_by c cs ++ d ∷ []) ≡ cond b (e ∷ kept_by c cs) (kept_by c cs) ++ d ∷ []
    moved true = refl
    moved false = refl

pub kept-push : (c top : ℕ) (cs : List Change) (d : Change) → IsRising 0 cs top → d.revision ≡ suc top → c ≤ top → kept c (cs ++ d ∷ []) ≡ kept c cs ++ d ∷ []
kept-push c top cs d rise is low =
    kept_is c 0 (suc top) (cs ++ d ∷ []) (rising-push 0 top cs d is rise) ∙ by_push c cs d (omega arith) ∙ ap (λ l. l ++ d ∷ []) (sym (kept_is c 0 top cs rise))

-- ---- a further compaction

or_false : (a b : Bool) → (a || b) ≡ false → (a ≡ false) × (b ≡ false)
or_false true b e = absurd (true≢false e)
or_false false b e = (refl, e)

-- where no change up to b is of the key, what is kept at b has those of it up to c
later_kept : (b c : ℕ) (k : Key) (cs : List Change) → has_later b k cs ≡ false → has_later c k (kept_by b cs) ≡ has_later c k cs
later_kept b c k [] none = refl
later_kept b c k (e ∷ cs) none =
    let parts = or_false (nat_le e.revision b && is_same_key k e.key) (has_later b k cs) none in
    go (nat_lt b e.revision) refl (is_some e.body && not (has_later b e.key cs)) parts.0 (later_kept b c k cs parts.1)
  where
    unlike : (l : Bool) → nat_le e.revision b ≡ true → (nat_le e.revision b && is_same_key k e.key) ≡ false → (l && is_same_key k e.key) ≡ false
    unlike true is none = ap (λ t. t && is_same_key k e.key) (sym is) ∙ none
    unlike false is none = refl

    go : (t : Bool) → nat_lt b e.revision ≡ t → (u : Bool) → (nat_le e.revision b && is_same_key k e.key) ≡ false → has_later c k (kept_by b cs) ≡ has_later c k cs
        → has_later c k (cond (t || u) (e ∷ kept_by b cs) (kept_by b cs)) ≡ has_later c k (e ∷ cs)
    go true is u apart more = ap (λ t. (nat_le e.revision c && is_same_key k e.key) || t) more
    go false is true apart more = ap (λ t. (nat_le e.revision c && is_same_key k e.key) || t) more
    go false is false apart more = more ∙ ap (λ t. t || has_later c k cs) (sym (unlike (nat_le e.revision c) (le-leb e.revision b (ltb-false _ _ is)) apart))

later_more : (b c : ℕ) (k : Key) (cs : List Change) → b ≤ c → has_later b k cs ≡ true → has_later c k cs ≡ true
later_more b c k [] le h = h
later_more b c k (e ∷ cs) le h = go (nat_le e.revision b) refl (is_same_key k e.key) h (λ t. later_more b c k cs le t)
  where
    right : (a : Bool) → (a || true) ≡ true
    right true = refl
    right false = refl

    go : (l : Bool) → nat_le e.revision b ≡ l → (s : Bool) → ((l && s) || has_later b k cs) ≡ true → (has_later b k cs ≡ true → has_later c k cs ≡ true)
        → ((nat_le e.revision c && s) || has_later c k cs) ≡ true
    go true is true h more = let a : e.revision ≤ b = leb-true _ _ is in ap (λ t. (t && true) || has_later c k cs) (le-leb e.revision c (omega arith))
    go true is false h more = ap (λ t. (nat_le e.revision c && false) || t) (more h) ∙ right _
    go false is s h more = ap (λ t. (nat_le e.revision c && s) || t) (more h) ∙ right _

by_kept : (b c lo top : ℕ) (cs : List Change) → b ≤ c → IsRising lo cs top → kept_by c (kept_by b cs) ≡ kept_by c cs
by_kept b c lo top [] le rise = refl
by_kept b c lo top (d ∷ cs) le rise =
    go (nat_lt b d.revision) refl (has_later b d.key cs) refl (by_kept b c d.revision top cs le rise.1)
  where
    apart : b < d.revision → has_later b d.key cs ≡ false
    apart h = none_later b d.revision top d.key cs (omega arith) rise.1

    stays : has_later b d.key cs ≡ false → kept_by c (kept_by b cs) ≡ kept_by c cs → kept_by c (d ∷ kept_by b cs) ≡ kept_by c (d ∷ cs)
    stays none more =
        ap (λ t. cond (nat_lt c d.revision || (is_some d.body && not t)) (d ∷ kept_by c (kept_by b cs)) (kept_by c (kept_by b cs))) (later_kept b c d.key cs none)
        ∙ ap (λ l. cond (nat_lt c d.revision || (is_some d.body && not (has_later c d.key cs))) (d ∷ l) l) more

    gone : d.revision ≤ b → (is_some d.body && not (has_later c d.key cs)) ≡ false → kept_by c (kept_by b cs) ≡ kept_by c cs → kept_by c (kept_by b cs) ≡ kept_by c (d ∷ cs)
    gone low drops more = more ∙ sym (ap (λ t. cond (t || (is_some d.body && not (has_later c d.key cs))) (d ∷ kept_by c cs) (kept_by c cs)) (le-ltb c d.revision (omega arith)) ∙ ap (λ t. cond t (d ∷ kept_by c cs) (kept_by c cs)) drops)

    and_not : (s : Bool) → (s && not true) ≡ false
    and_not true = refl
    and_not false = refl

    by_body : (s : Bool) → is_some d.body ≡ s → has_later b d.key cs ≡ false → d.revision ≤ b → kept_by c (kept_by b cs) ≡ kept_by c cs → kept_by c (cond (s && true) (d ∷ kept_by b cs) (kept_by b cs)) ≡ kept_by c (d ∷ cs)
    by_body true is none low more = stays none more
    by_body false is none low more = gone low (ap (λ t. t && not (has_later c d.key cs)) is) more

    go : (t : Bool) → nat_lt b d.revision ≡ t → (h : Bool) → has_later b d.key cs ≡ h → kept_by c (kept_by b cs) ≡ kept_by c cs
        → kept_by c (cond (t || (is_some d.body && not h)) (d ∷ kept_by b cs) (kept_by b cs)) ≡ kept_by c (d ∷ cs)
    go true is h same more = stays (apart (ltb-true _ _ is)) more
    go false is true same more =
        ap (λ t. kept_by c (cond t (d ∷ kept_by b cs) (kept_by b cs))) (and_not (is_some d.body))
        ∙ gone (ltb-false _ _ is) (ap (λ t. is_some d.body && not t) (later_more b c d.key cs le same) ∙ and_not (is_some d.body)) more
    go false is false same more = by_body (is_some d.body) refl same (ltb-false _ _ is) more

-- what is kept at b is enough to tell what is kept later
pub kept_kept : (b c top : ℕ) (cs : List Change) → b ≤ c → IsRising 0 cs top → kept c (kept b cs) ≡ kept c cs
kept_kept b c top cs le rise =
    ap (kept c) (kept_is b 0 top cs rise) ∙ kept_is c 0 top (kept_by b cs) (Rattle.std.proofs.Common.subst (λ l. IsRising 0 l top) (kept_is b 0 top cs rise) (rising-filter _ 0 top cs rise))
    ∙ by_kept b c 0 top cs le rise ∙ sym (kept_is c 0 top cs rise)

-- ---- histories of which only the kept changes are left

pub fresh_is : (n : ℕ) → n ≤ last_revision → IsPruned (fresh n)
fresh_is n h = record { is = record { rising = zero-le; low = omega arith; high = h }; whole = refl }

pub written_is : (h : History) (k : Key) (body : Option (List ℕ)) → IsPruned h → suc h.current ≤ last_revision → IsPruned (written h k body)
written_is h k body p fits =
    let low : h.compacted ≤ h.current = p.is.low in
    record {
      is = record { rising = rising-push 0 h.current h.changes _ refl p.is.rising; low = omega arith; high = fits };
      whole = kept-push h.compacted h.current h.changes _ p.is.rising refl low ∙ ap (λ l. l ++ record { revision = suc h.current; key = k; body = body } ∷ []) p.whole;
    }

pub pruned_is : (h : History) (c : ℕ) → IsHistory h → c ≤ h.current → IsPruned (pruned c h)
pruned_is h c is low = record { is = record { rising = rising-filter _ 0 h.current h.changes is.rising; low = low; high = is.high }; whole = kept_kept c c h.current h.changes (omega arith) is.rising }
