-- What several writes make of a history, one after the other.
use Rattle.std.proofs.Common.{◌≡◌, ℕ, suc, ◌+◌, ◌≤◌, List, [], ◌∷◌, ◌++◌, length, refl, sym, ap, subst, ◌∙◌, Option, arith, append_assoc, append-nil}
use Rattle.std.specs.FinMap as fin
use Rattle.history.specs.History.{Key, Objects, Change, History, IsRising, changed, last_revision, left_by, put_or_remove, current_objects, written}
use Rattle.history.specs.Kept.{IsPruned, pruned}
use Rattle.history.specs.View.{view}
use Rattle.history.specs.Whole.{AreThere, IsWhole}
use Rattle.history.specs.Writes.{changes_by, written_all, written_all_in}
use Rattle.history.proofs.Kept.{kept-push, written_is}
use Rattle.history.proofs.Revisions.{changed-append, rising-push, up_to-all}
use Rattle.history.proofs.Seen.{view_writes_low}
use Rattle.history.proofs.Wholes.{whole_is, whole_writes}

abbrev Writes : Type 0
Writes = List (Key × Option (List ℕ))

-- ---- their changes and their number

pub changes_all : (h : History) (ws : Writes) → (written_all h ws).changes ≡ h.changes ++ changes_by h.current ws
changes_all h [] = sym (append-nil h.changes)
changes_all h (w ∷ ws) = changes_all (written h w.0 w.1) ws ∙ append_assoc h.changes (record { revision = suc h.current; key = w.0; body = w.1 } ∷ []) (changes_by (suc h.current) ws)

pub current_all : (h : History) (ws : Writes) → (written_all h ws).current ≡ h.current + length ws
current_all h [] = omega arith
current_all h (w ∷ ws) = let more = current_all (written h w.0 w.1) ws in omega arith

pub compacted_all : (h : History) (ws : Writes) → (written_all h ws).compacted ≡ h.compacted
compacted_all h [] = refl
compacted_all h (w ∷ ws) = compacted_all (written h w.0 w.1) ws

pub written_all-push : (h : History) (ws : Writes) (w : Key × Option (List ℕ)) → written_all h (ws ++ w ∷ []) ≡ written (written_all h ws) w.0 w.1
written_all-push h [] w = refl
written_all-push h (v ∷ ws) w = written_all-push (written h v.0 v.1) ws w

-- ---- what stays so with each

pub rising_all : (h : History) (ws : Writes) → IsRising 0 h.changes h.current → IsRising 0 (written_all h ws).changes (written_all h ws).current
rising_all h [] rise = rise
rising_all h (w ∷ ws) rise = rising_all (written h w.0 w.1) ws (rising-push 0 h.current h.changes _ refl rise)

pub view_all : (h : History) (ws : Writes) → h.compacted ≤ h.current → view (written_all h ws) ≡ written_all_in (view h) ws
view_all h [] low = refl
view_all h (w ∷ ws) low = view_all (written h w.0 w.1) ws (omega arith) ∙ ap (λ v. written_all_in v ws) (view_writes_low h w.0 w.1 low)

pub pruned_all : (h : History) (ws : Writes) → IsRising 0 h.changes h.current → h.compacted ≤ h.current → pruned h.compacted (written_all h ws) ≡ written_all (pruned h.compacted h) ws
pruned_all h [] rise low = refl
pruned_all h (w ∷ ws) rise low =
    pruned_all (written h w.0 w.1) ws (rising-push 0 h.current h.changes _ refl rise) (omega arith)
    ∙ ap (λ l. written_all (record { changes = l; current = suc h.current; compacted = h.compacted }) ws) (kept-push h.compacted h.current h.changes (record { revision = suc h.current; key = w.0; body = w.1 }) rise refl low)

pub kept_all : (h : History) (ws : Writes) → IsPruned h → h.current + length ws ≤ last_revision → IsPruned (written_all h ws)
kept_all h [] p fits = p
kept_all h (w ∷ ws) p fits = kept_all (written h w.0 w.1) ws (written_is h w.0 w.1 p (omega arith)) (omega arith)

pub there_append : (s : Objects) (cs ds : List Change) → AreThere s cs → AreThere (changed s cs) ds → AreThere s (cs ++ ds)
there_append s [] ds all more = more
there_append s (c ∷ cs) ds all more = (all.0, there_append (put_or_remove s c.key (left_by c)) cs ds all.1 more)

-- each deletion among all the changes is of an object that is there
pub there_all : (h : History) (ws : Writes) → IsRising 0 h.changes h.current → AreThere fin.empty h.changes → AreThere (current_objects h) (changes_by h.current ws) → AreThere fin.empty (written_all h ws).changes
there_all h ws rise all more =
    subst (AreThere fin.empty) (sym (changes_all h ws))
    (there_append fin.empty h.changes (changes_by h.current ws) all (subst (λ s. AreThere s (changes_by h.current ws)) (ap (changed fin.empty) (up_to-all 0 h.current h.current h.changes (omega arith) rise)) more))

-- what stands once one is written
pub current_objects_written : (h : History) (k : Key) (body : Option (List ℕ)) → IsRising 0 h.changes h.current
    → current_objects (written h k body) ≡ put_or_remove (current_objects h) k (left_by (record { revision = suc h.current; key = k; body = body }))
current_objects_written h k body rise =
    let d : Change = record { revision = suc h.current; key = k; body = body } in
    ap (changed fin.empty) (up_to-all 0 (suc h.current) (suc h.current) (h.changes ++ d ∷ []) (omega arith) (rising-push 0 h.current h.changes d refl rise))
    ∙ changed-append fin.empty h.changes (d ∷ [])
    ∙ ap (λ s. put_or_remove s k (left_by d)) (ap (changed fin.empty) (sym (up_to-all 0 h.current h.current h.changes (omega arith) rise)))

pub whole_all : (first : ℕ) (h : History) (ws : Writes) → IsWhole first h → h.current + length ws ≤ last_revision → AreThere (current_objects h) (changes_by h.current ws) → IsWhole first (written_all h ws)
whole_all first h [] is fits there = is
whole_all first h (w ∷ ws) is fits there =
    whole_all first (written h w.0 w.1) ws (whole_writes first h w.0 w.1 is (omega arith) there.0) (omega arith)
    (subst (λ s. AreThere s (changes_by (suc h.current) ws)) (sym (current_objects_written h w.0 w.1 (whole_is first h is).rising)) there.1)
