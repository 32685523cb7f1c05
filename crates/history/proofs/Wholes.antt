-- A history of which nothing is forgotten stays one.
use Rattle.std.proofs.Common.{◌≡◌, ℕ, suc, ◌≤◌, true, List, [], ◌∷◌, ◌++◌, refl, sym, ap, subst, ◌∙◌, Option, None, arith}
use Rattle.std.specs.FinMap as fin
use Rattle.history.specs.History.{Key, Objects, Change, History, IsHistory, IsRising, changed, compacted_to, fresh, last_revision, left_by, put_or_remove, current_objects, written}
use Rattle.history.specs.Whole.{AreThere, IsGapless, IsWhole}
use Rattle.history.proofs.Revisions.{rising_from, up_to-all}

gapless_rises : (first top : ℕ) (cs : List Change) → IsGapless first cs top → IsRising first cs top
gapless_rises first top [] is = let a : first ≡ top = is in omega arith
gapless_rises first top (c ∷ cs) is =
    let a : c.revision ≡ suc first = is.0 in
    (omega arith, subst (λ n. IsRising n cs top) (sym a) (gapless_rises (suc first) top cs is.1))

pub whole_is : (first : ℕ) (h : History) → IsWhole first h → IsHistory h
whole_is first h is = record { rising = rising_from 0 first h.current h.changes (omega arith) (gapless_rises first h.current h.changes is.gapless); low = is.low; high = is.high }

pub whole_fresh : (n : ℕ) → 1 ≤ n → n ≤ last_revision → IsWhole n (fresh n)
whole_fresh n a b = record { begun = a; gapless = refl; there = tt; after = omega arith; low = omega arith; high = b }

gapless-push : (first top : ℕ) (cs : List Change) (c : Change) → c.revision ≡ suc top → IsGapless first cs top → IsGapless first (cs ++ c ∷ []) (suc top)
gapless-push first top [] c next is = let a : first ≡ top = is in (next ∙ ap suc (sym a), ap suc a)
gapless-push first top (d ∷ cs) c next is = (is.0, gapless-push (suc first) top cs c next is.1)

there-push : (s : Objects) (cs : List Change) (c : Change) → (c.body ≡ None → fin.contains_key (changed s cs) c.key ≡ true) → AreThere s cs → AreThere s (cs ++ c ∷ [])
there-push s [] c last is = (last, tt)
there-push s (d ∷ cs) c last is = (is.0, there-push (put_or_remove s d.key (left_by d)) cs c last is.1)

current_objects_is_all : (h : History) → IsHistory h → current_objects h ≡ changed fin.empty h.changes
current_objects_is_all h is = ap (changed fin.empty) (up_to-all 0 h.current h.current h.changes (omega arith) is.rising)

pub whole_writes : (first : ℕ) (h : History) (k : Key) (body : Option (List ℕ)) → IsWhole first h → suc h.current ≤ last_revision
    → (body ≡ None → fin.contains_key (current_objects h) k ≡ true) → IsWhole first (written h k body)
whole_writes first h k body is fits last =
    let low : h.compacted ≤ h.current = is.low in
    record {
      begun = is.begun;
      gapless = gapless-push first h.current h.changes _ refl is.gapless;
      there = there-push fin.empty h.changes _ (λ none. ap (λ s. fin.contains_key s k) (sym (current_objects_is_all h (whole_is first h is))) ∙ last none) is.there;
      after = is.after;
      low = omega arith;
      high = fits;
    }

pub whole_compacts : (first : ℕ) (h : History) (c : ℕ) → IsWhole first h → h.compacted ≤ c → c ≤ h.current → IsWhole first (compacted_to c h)
whole_compacts first h c is low high =
    let a : first ≤ h.compacted = is.after in
    record { begun = is.begun; gapless = is.gapless; there = is.there; after = omega arith; low = high; high = is.high }
