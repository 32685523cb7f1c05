-- The rows once what a compaction forgets is gone, and that each deletion that is left is still of an object that is there.
use Rattle.std.proofs.Common.{◌≡◌, ℕ, ◌<◌, ◌≤◌, Bool, true, false, cond, not, ◌&&◌, ◌||◌, List, [], ◌∷◌, ◌++◌, refl, sym, ap, ap₂, subst, ◌∙◌, Option, Some, None, arith, true≢false, is_some}
use Rattle.std.proofs.Common.{le-leb, ltb-true, ltb-false, zero-le}
use Rattle.std.proofs.lemmas.Bool.{lt-leb}
use Rattle.std.proofs.lemmas.Bool.Decides.{nat_tests}
use Rattle.std.specs.Prelude.{nat_le, nat_lt}
use Rattle.std.specs.List.{AllByRecursion}
use Rattle.std.specs.FinMap as fin
use Rattle.history.specs.History.{Key, Objects, Change, IsRising, changed, is_same_key, later, left_by, put_or_remove, state_at, up_to}
use Rattle.history.specs.Kept.{kept}
use Rattle.history.specs.Whole.{AreThere}
use Rattle.history.proofs.Revisions.{rising-filter, rising-later, up_to-all, up_to-split}
use Rattle.history.proofs.CurrentObjects.{has_later, kept_by, kept_is}
use Rattle.history.proofs.Views.{kept_later, kept_states, none_later}
use Rattle.revtable.specs.Spans.{is_ended, is_past, next_of, span_until, spans_of, spans_until, without_ended}
use Rattle.revtable.proofs.Nexts.{next-cons, past_is}

or_parts : (a b : Bool) → (a || b) ≡ false → (a ≡ false) × (b ≡ false)
or_parts true b e = absurd (true≢false e)
or_parts false b e = (refl, e)

-- a key of which no change up to c follows has the same next change among the kept
next_kept : (c : ℕ) (k : Key) (cs : List Change) → has_later c k cs ≡ false → next_of k (kept_by c cs) ≡ next_of k cs
next_kept c k [] none = refl
next_kept c k (e ∷ cs) none =
    let parts = or_parts (nat_le e.revision c && is_same_key k e.key) (has_later c k cs) none in
    go (is_same_key k e.key) refl (nat_lt c e.revision) refl (is_some e.body && not (has_later c e.key cs)) parts.0 (next_kept c k cs parts.1) ∙ sym (next-cons k e cs)
  where
    go : (s : Bool) → is_same_key k e.key ≡ s → (t : Bool) → nat_lt c e.revision ≡ t → (u : Bool) → (nat_le e.revision c && is_same_key k e.key) ≡ false → next_of k (kept_by c cs) ≡ next_of k cs
        → next_of k (cond (t || u) (e ∷ kept_by c cs) (kept_by c cs)) ≡ cond (is_same_key k e.key) (Some e) (next_of k cs)
    go s is true past u apart more = next-cons k e (kept_by c cs) ∙ ap (λ o. cond (is_same_key k e.key) (Some e) o) more
    go s is false past true apart more = next-cons k e (kept_by c cs) ∙ ap (λ o. cond (is_same_key k e.key) (Some e) o) more
    go true is false past false apart more = absurd (true≢false (sym (ap₂ (λ a b. a && b) (le-leb e.revision c (ltb-false _ _ past)) is) ∙ apart))
    go false is false past false apart more = more ∙ ap (λ b. cond b (Some e) (next_of k cs)) (sym is)

-- a revision that ended a row is above 0, so its end up to c is its end
ended_is : (c lo top first : ℕ) (k : Key) (body : List ℕ) (cs : List Change) → IsRising lo cs top → not (is_ended c (span_until k first body (next_of k cs)).ended) ≡ is_past c (span_until k first body (next_of k cs)).ended
ended_is c lo top first k body [] rise = refl
ended_is c lo top first k body (d ∷ cs) rise = rw (next-cons k d cs) (go (is_same_key k d.key) (ended_is c d.revision top first k body cs rise.1))
  where
    by_number : (n : ℕ) → lo < n → not (nat_lt 0 n && nat_le n c) ≡ nat_lt c n
    by_number n lt = grind (arith, nat_tests)

    go : (b : Bool) → not (is_ended c (span_until k first body (next_of k cs)).ended) ≡ is_past c (span_until k first body (next_of k cs)).ended
        → not (is_ended c (span_until k first body (cond b (Some d) (next_of k cs))).ended) ≡ is_past c (span_until k first body (cond b (Some d) (next_of k cs))).ended
    go true more = by_number d.revision rise.0
    go false more = more

by_kept : (c lo top : ℕ) (cs : List Change) → IsRising lo cs top → without_ended c (spans_of cs) ≡ spans_of (kept_by c cs)
by_kept c lo top [] rise = refl
by_kept c lo top (d ∷ cs) rise = go d.body refl (by_kept c d.revision top cs rise.1)
  where
    none : (b : Bool) → d.body ≡ None → without_ended c (spans_of cs) ≡ spans_of (kept_by c cs) → without_ended c (spans_of cs) ≡ spans_of (cond b (d ∷ kept_by c cs) (kept_by c cs))
    none true e more = more ∙ ap (λ b. spans_until d.key d.revision b (next_of d.key (kept_by c cs)) ++ spans_of (kept_by c cs)) (sym e)
    none false e more = more

    stays : (body : List ℕ) → not (is_ended c (span_until d.key d.revision body (next_of d.key cs)).ended) ≡ not (has_later c d.key cs)
    stays body = ended_is c d.revision top d.revision d.key body cs rise.1 ∙ past_is c d.revision top d.revision d.key body cs rise.1

    past : (h : Bool) → has_later c d.key cs ≡ h → (b : Bool) → nat_lt c d.revision ≡ b → (b || not h) ≡ not h
    past h is true above = let lt : c < d.revision = ltb-true _ _ above in sym (ap not (sym is ∙ none_later c d.revision top d.key cs (omega arith) rise.1))
    past h is false above = refl

    by_later : (body : List ℕ) → d.body ≡ Some body → (h : Bool) → has_later c d.key cs ≡ h → without_ended c (spans_of cs) ≡ spans_of (kept_by c cs)
        → cond (not h) (span_until d.key d.revision body (next_of d.key cs) ∷ without_ended c (spans_of cs)) (without_ended c (spans_of cs)) ≡ spans_of (cond (not h) (d ∷ kept_by c cs) (kept_by c cs))
    by_later body e true is more = more
    by_later body e false is more =
        ap₂ (λ n l. span_until d.key d.revision body n ∷ l) (sym (next_kept c d.key cs is)) more
        ∙ ap (λ b. spans_until d.key d.revision b (next_of d.key (kept_by c cs)) ++ spans_of (kept_by c cs)) (sym e)

    go : (b : Option (List ℕ)) → d.body ≡ b → without_ended c (spans_of cs) ≡ spans_of (kept_by c cs)
        → without_ended c (spans_until d.key d.revision b (next_of d.key cs) ++ spans_of cs)
        ≡ spans_of (cond (nat_lt c d.revision || (is_some b && not (has_later c d.key cs))) (d ∷ kept_by c cs) (kept_by c cs))
    go None e more = none (nat_lt c d.revision || false) e more
    go (Some body) e more =
        ap (λ b. cond b (span_until d.key d.revision body (next_of d.key cs) ∷ without_ended c (spans_of cs)) (without_ended c (spans_of cs))) (stays body)
        ∙ by_later body e (has_later c d.key cs) refl more
        ∙ ap (λ b. spans_of (cond b (d ∷ kept_by c cs) (kept_by c cs))) (sym (past (has_later c d.key cs) refl (nat_lt c d.revision) refl))

pub without_is : (c top : ℕ) (cs : List Change) → IsRising 0 cs top → without_ended c (spans_of cs) ≡ spans_of (kept c cs)
without_is c top cs rise = by_kept c 0 top cs rise ∙ ap spans_of (sym (kept_is c 0 top cs rise))

-- ---- what is kept is there

there_before : (s : Objects) (xs ys : List Change) → AreThere s (xs ++ ys) → AreThere (changed s xs) ys
there_before s [] ys there = there
there_before s (x ∷ xs) ys there = there_before (put_or_remove s x.key (left_by x)) xs ys there.1

there_after : (s : Objects) (xs ys : List Change) → AllByRecursion (λ c. is_some c.body ≡ true) xs → AreThere (changed s xs) ys → AreThere s (xs ++ ys)
there_after s [] ys bodies there = there
there_after s (x ∷ xs) ys bodies there = (λ none. absurd (true≢false (sym bodies.0 ∙ ap is_some none)), there_after (put_or_remove s x.key (left_by x)) xs ys bodies.1 there)

-- those kept up to c are no deletions
kept_bodies : (c : ℕ) (cs : List Change) → AllByRecursion (λ d. is_some d.body ≡ true) (up_to c (kept_by c cs))
kept_bodies c [] = tt
kept_bodies c (d ∷ cs) = go (nat_lt c d.revision) refl (is_some d.body && not (has_later c d.key cs)) refl (kept_bodies c cs)
  where
    left : (a b : Bool) → (a && b) ≡ true → a ≡ true
    left true b e = refl
    left false b e = e

    go : (t : Bool) → nat_lt c d.revision ≡ t → (u : Bool) → (is_some d.body && not (has_later c d.key cs)) ≡ u → AllByRecursion (λ e. is_some e.body ≡ true) (up_to c (kept_by c cs))
        → AllByRecursion (λ e. is_some e.body ≡ true) (up_to c (cond (t || u) (d ∷ kept_by c cs) (kept_by c cs)))
    go true past u is more = subst (λ b. AllByRecursion (λ e. is_some e.body ≡ true) (cond b (d ∷ up_to c (kept_by c cs)) (up_to c (kept_by c cs)))) (sym (lt-leb d.revision c (ltb-true _ _ past))) more
    go false past true is more = subst (λ b. AllByRecursion (λ e. is_some e.body ≡ true) (cond b (d ∷ up_to c (kept_by c cs)) (up_to c (kept_by c cs)))) (sym (le-leb d.revision c (ltb-false _ _ past))) (left (is_some d.body) _ is, more)
    go false past false is more = more

parted : (c top : ℕ) (cs : List Change) → IsRising 0 cs top → c ≤ top → cs ≡ up_to c cs ++ later c cs
parted c top cs rise le =
    sym (up_to-all 0 top top cs (omega arith) rise) ∙ up_to-split 0 c top top cs le rise
    ∙ ap (λ l. up_to c cs ++ l) (up_to-all c top top (later c cs) (omega arith) (rising-later 0 c top cs zero-le le rise))

pub kept_there : (c top : ℕ) (cs : List Change) → IsRising 0 cs top → c ≤ top → AreThere fin.empty cs → AreThere fin.empty (kept c cs)
kept_there c top cs rise le there =
    let ks = kept c cs in
    let bodies : AllByRecursion (λ d. is_some d.body ≡ true) (up_to c ks) = subst (λ l. AllByRecursion (λ d. is_some d.body ≡ true) (up_to c l)) (sym (kept_is c 0 top cs rise)) (kept_bodies c cs) in
    let after : AreThere (state_at cs c) (later c cs) = there_before fin.empty (up_to c cs) (later c cs) (subst (AreThere fin.empty) (parted c top cs rise le) there) in
    let same : AreThere (changed fin.empty (up_to c ks)) (later c ks) = subst₂ AreThere (sym (kept_states c c top cs rise (omega arith))) (sym (kept_later c c top cs rise (omega arith))) after in
    subst (AreThere fin.empty) (sym (parted c top ks (rising-filter _ 0 top cs rise) le)) (there_after fin.empty (up_to c ks) (later c ks) bodies same)
  where
    subst₂ : (P : Objects → List Change → Type 0) {s t : Objects} {xs ys : List Change} → s ≡ t → xs ≡ ys → P s xs → P t ys
    subst₂ P {s} {t} {xs} {ys} e f h = subst (λ x. P x ys) e (subst (λ l. P s l) f h)
