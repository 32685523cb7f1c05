-- Changes whose revisions rise, cut at a revision.
use Rattle.std.proofs.Common.{filter, ◌≡◌, ℕ, suc, ◌<◌, ◌≤◌, Bool, true, false, cond, List, [], ◌∷◌, ◌++◌, refl, sym, ap, subst, ◌∙◌, arith}
use Rattle.std.proofs.Common.{ltb-true, ltb-false, leb-true, leb-false, lt-ltb, le-ltb, le-leb}
use Rattle.std.proofs.lemmas.Bool.{lt-leb}
use Rattle.std.specs.Prelude.{nat_le, nat_lt}
use Rattle.std.specs.List.{AllByRecursion}
use Rattle.history.proofs.Lists.{all_weaker}
use Rattle.history.specs.History.{Objects, Change, left_by, put_or_remove, changed, up_to, later, state_at, IsRising}

pub rising_ends : (lo top : ℕ) (cs : List Change) → IsRising lo cs top → lo ≤ top
rising_ends lo top [] rise = rise
rising_ends lo top (c ∷ cs) rise = let a : lo < c.revision = rise.0 in let b : c.revision ≤ top = rising_ends c.revision top cs rise.1 in omega arith

pub up_to-below : (lo r top : ℕ) (cs : List Change) → r ≤ lo → IsRising lo cs top → up_to r cs ≡ []
up_to-below lo r top [] h rise = refl
up_to-below lo r top (c ∷ cs) h rise =
    let a : lo < c.revision = rise.0 in
    ap (λ b. cond b (c ∷ up_to r cs) (up_to r cs)) (lt-leb c.revision r (omega arith)) ∙ up_to-below c.revision r top cs (omega arith) rise.1

pub later-below : (lo r top : ℕ) (cs : List Change) → r ≤ lo → IsRising lo cs top → later r cs ≡ cs
later-below lo r top [] h rise = refl
later-below lo r top (c ∷ cs) h rise =
    let a : lo < c.revision = rise.0 in
    ap (λ b. cond b (c ∷ later r cs) (later r cs)) (lt-ltb r c.revision (omega arith)) ∙ ap (λ ds. c ∷ ds) (later-below c.revision r top cs (omega arith) rise.1)

pub up_to-all : (lo r top : ℕ) (cs : List Change) → top ≤ r → IsRising lo cs top → up_to r cs ≡ cs
up_to-all lo r top [] h rise = refl
up_to-all lo r top (c ∷ cs) h rise =
    let a : c.revision ≤ top = rising_ends c.revision top cs rise.1 in
    ap (λ b. cond b (c ∷ up_to r cs) (up_to r cs)) (le-leb c.revision r (omega arith)) ∙ ap (λ ds. c ∷ ds) (up_to-all c.revision r top cs h rise.1)

pub up_to-split : (lo r q top : ℕ) (cs : List Change) → r ≤ q → IsRising lo cs top → up_to q cs ≡ up_to r cs ++ up_to q (later r cs)
up_to-split lo r q top [] h rise = refl
up_to-split lo r q top (c ∷ cs) h rise = go (up_to-split c.revision r q top cs h rise.1) (nat_le c.revision r) refl
  where
    go : up_to q cs ≡ up_to r cs ++ up_to q (later r cs) → (b : Bool) → nat_le c.revision r ≡ b → up_to q (c ∷ cs) ≡ cond b (c ∷ up_to r cs) (up_to r cs) ++ up_to q (later r (c ∷ cs))
    go below true is =
        let a : c.revision ≤ r = leb-true _ _ is in
        ap (λ b. cond b (c ∷ up_to q cs) (up_to q cs)) (le-leb c.revision q (omega arith))
        ∙ ap (λ ds. c ∷ ds) below
        ∙ ap (λ b. c ∷ up_to r cs ++ up_to q (cond b (c ∷ later r cs) (later r cs))) (sym (le-ltb r c.revision a))
    go below false is =
        let a : r < c.revision = leb-false _ _ is in
        let b : r ≤ c.revision = omega arith in
        ap (λ ds. up_to q (c ∷ ds)) (sym (later-below c.revision r top cs b rise.1))
        ∙ ap (λ b. up_to q (cond b (c ∷ later r cs) (later r cs))) (sym (lt-ltb r c.revision a))
        ∙ ap (λ ds. ds ++ up_to q (later r (c ∷ cs))) (sym (up_to-below c.revision r top cs b rise.1))

pub rising-later : (lo p top : ℕ) (cs : List Change) → lo ≤ p → p ≤ top → IsRising lo cs top → IsRising p (later p cs) top
rising-later lo p top [] h k rise = k
rising-later lo p top (c ∷ cs) h k rise = go (λ below. rising-later c.revision p top cs below k rise.1) (nat_lt p c.revision) refl
  where
    go : (c.revision ≤ p → IsRising p (later p cs) top) → (b : Bool) → nat_lt p c.revision ≡ b → IsRising p (cond b (c ∷ later p cs) (later p cs)) top
    go others true is =
        let a : p < c.revision = ltb-true _ _ is in
        (a, subst (λ ds. IsRising c.revision ds top) (sym (later-below c.revision p top cs (omega arith) rise.1)) rise.1)
    go others false is = others (ltb-false _ _ is)

pub changed-append : (s : Objects) (xs ys : List Change) → changed s (xs ++ ys) ≡ changed (changed s xs) ys
changed-append s [] ys = refl
changed-append s (x ∷ xs) ys = changed-append (put_or_remove s x.key (left_by x)) xs ys

pub up_to-keeps : (r : ℕ) (c : Change) (cs : List Change) → c.revision ≤ r → up_to r (c ∷ cs) ≡ c ∷ up_to r cs
up_to-keeps r c cs h = ap (λ b. cond b (c ∷ up_to r cs) (up_to r cs)) (le-leb c.revision r h)

pub later-drops : (r : ℕ) (c : Change) (cs : List Change) → c.revision ≤ r → later r (c ∷ cs) ≡ later r cs
later-drops r c cs h = ap (λ b. cond b (c ∷ later r cs) (later r cs)) (le-ltb r c.revision h)

pub later-later : (r q : ℕ) (cs : List Change) → r ≤ q → later q (later r cs) ≡ later q cs
later-later r q [] h = refl
later-later r q (c ∷ cs) h = go (later-later r q cs h) (nat_lt r c.revision) refl
  where
    go : later q (later r cs) ≡ later q cs → (b : Bool) → nat_lt r c.revision ≡ b → later q (cond b (c ∷ later r cs) (later r cs)) ≡ later q (c ∷ cs)
    go below true is = ap (λ ds. cond (nat_lt q c.revision) (c ∷ ds) ds) below
    go below false is = let a : c.revision ≤ r = ltb-false _ _ is in below ∙ sym (later-drops q c cs (omega arith))

pub up_to-push : (r : ℕ) (cs : List Change) (c : Change) → r < c.revision → up_to r (cs ++ c ∷ []) ≡ up_to r cs
up_to-push r [] c h = ap (λ b. cond b (c ∷ []) []) (lt-leb c.revision r h)
up_to-push r (d ∷ cs) c h = ap (λ ds. cond (nat_le d.revision r) (d ∷ ds) ds) (up_to-push r cs c h)

-- a change with a later revision leaves each earlier state
pub state_at-push : (cs : List Change) (r : ℕ) (c : Change) → r < c.revision → state_at (cs ++ c ∷ []) r ≡ state_at cs r
state_at-push cs r c h = ap (changed Rattle.std.specs.FinMap.empty) (up_to-push r cs c h)

pub rising-push : (lo top : ℕ) (cs : List Change) (c : Change) → c.revision ≡ suc top → IsRising lo cs top → IsRising lo (cs ++ c ∷ []) (suc top)
rising-push lo top [] c is rise = (omega arith, omega arith)
rising-push lo top (d ∷ cs) c is rise = (rise.0, rising-push d.revision top cs c is rise.1)

pub rising_more : (lo top : ℕ) (cs : List Change) → IsRising lo cs top → IsRising lo cs (suc top)
rising_more lo top [] rise = omega arith
rising_more lo top (d ∷ cs) rise = (rise.0, rising_more d.revision top cs rise.1)

pub rising_from : (lo mid top : ℕ) (cs : List Change) → lo ≤ mid → IsRising mid cs top → IsRising lo cs top
rising_from lo mid top [] h rise = omega arith
rising_from lo mid top (d ∷ cs) h rise = let a : mid < d.revision = rise.0 in (omega arith, rise.1)

pub rising-filter : (own : Change → Bool) (lo top : ℕ) (cs : List Change) → IsRising lo cs top → IsRising lo (filter own cs) top
rising-filter own lo top [] rise = rise
rising-filter own lo top (d ∷ cs) rise = go (own d) (rising-filter own d.revision top cs rise.1)
  where
    go : (b : Bool) → IsRising d.revision (filter own cs) top → IsRising lo (cond b (d ∷ filter own cs) (filter own cs)) top
    go true others = (rise.0, others)
    go false others = let a : lo < d.revision = rise.0 in rising_from lo d.revision top (filter own cs) (omega arith) others

-- ---- each is above all before it

pub all_above : (lo top : ℕ) (cs : List Change) → IsRising lo cs top → AllByRecursion (λ c. lo < c.revision) cs
all_above lo top [] rise = tt
all_above lo top (c ∷ cs) rise =
    let a : lo < c.revision = rise.0 in
    (a, all_weaker (λ d. c.revision < d.revision) (λ d. lo < d.revision) (λ d (h : c.revision < d.revision). omega arith) cs (all_above c.revision top cs rise.1))

pub all_within : (lo top : ℕ) (cs : List Change) → IsRising lo cs top → AllByRecursion (λ c. c.revision ≤ top) cs
all_within lo top [] rise = tt
all_within lo top (c ∷ cs) rise = (rising_ends c.revision top cs rise.1, all_within c.revision top cs rise.1)
