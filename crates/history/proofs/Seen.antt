-- Writes and compactions, as a view sees them.
use Rattle.std.proofs.Common.{◌≡◌, ℕ, suc, ◌<◌, ◌≤◌, List, [], ◌∷◌, ◌++◌, refl, sym, ap, ◌∙◌, Option, arith, cond, Bool, true, false}
use Rattle.std.proofs.Common.{le-leb, lt-ltb}
use Rattle.std.specs.Prelude.{nat_le, nat_lt}
use Rattle.history.proofs.Lists.{all-filter, all_weaker, filter_all}
use Rattle.history.specs.History.{Key, Change, History, IsHistory, compacted_to, later, up_to, written}
use Rattle.history.specs.Kept.{IsPruned, between_marks, pruned}
use Rattle.history.specs.View.{compacted_in, view, written_in}
use Rattle.history.proofs.Kept.{kept-push, kept_kept, pruned_is}
use Rattle.history.proofs.Revisions.{all_within, later-later, state_at-push}
use Rattle.history.proofs.Views.{kept_later, kept_states, view_states}

later-push : (c : ℕ) (cs : List Change) (d : Change) → c < d.revision → later c (cs ++ d ∷ []) ≡ later c cs ++ d ∷ []
later-push c [] d h = ap (λ b. cond b (d ∷ []) []) (lt-ltb c d.revision h)
later-push c (e ∷ cs) d h = go (nat_lt c e.revision) (later-push c cs d h)
  where
    go : (b : Bool) → later c (cs ++ d ∷ []) ≡ later c cs ++ d ∷ [] → cond b (e ∷ later c (cs ++ d ∷ [])) (later c (cs ++ d ∷ [])) ≡ cond b (e ∷ later c cs) (later c cs) ++ d ∷ []
    go true more = ap (λ l. e ∷ l) more
    go false more = more

pub view_writes_low : (h : History) (k : Key) (body : Option (List ℕ)) → h.compacted ≤ h.current → view (written h k body) ≡ written_in (view h) k body
view_writes_low h k body low =
    rw (state_at-push h.changes h.compacted (record { revision = suc h.current; key = k; body = body }) (omega arith), later-push h.compacted h.changes (record { revision = suc h.current; key = k; body = body }) (omega arith)) refl

pub view_writes : (h : History) (k : Key) (body : Option (List ℕ)) → IsHistory h → view (written h k body) ≡ written_in (view h) k body
view_writes h k body is = view_writes_low h k body is.low

pub view_compacts : (h : History) (c : ℕ) → IsHistory h → h.compacted ≤ c → view (compacted_to c h) ≡ compacted_in c (view h)
view_compacts h c is le = rw (view_states h c is le, later-later h.compacted c h.changes le) refl

pub pruned_writes : (h : History) (k : Key) (body : Option (List ℕ)) → IsHistory h → pruned h.compacted (written h k body) ≡ written (pruned h.compacted h) k body
pruned_writes h k body is = rw (kept-push h.compacted h.current h.changes (record { revision = suc h.current; key = k; body = body }) is.rising refl is.low) refl

pub pruned_prunes : (h : History) (c : ℕ) → IsHistory h → h.compacted ≤ c → pruned c (pruned h.compacted h) ≡ pruned c (compacted_to c h)
pruned_prunes h c is le = rw (kept_kept h.compacted c h.current h.changes le is.rising) refl

-- no change is past the current revision
pub later_up_to : (h : History) (r : ℕ) → IsHistory h → up_to h.current (later r h.changes) ≡ later r h.changes
later_up_to h r is = filter_all (λ c. nat_le c.revision h.current) (later r h.changes)
    (all-filter (λ c. nat_le c.revision h.current ≡ true) (λ c. nat_lt r c.revision) h.changes (all_weaker (λ c. c.revision ≤ h.current) (λ c. nat_le c.revision h.current ≡ true) (λ c le. le-leb c.revision h.current le) h.changes (all_within 0 h.current h.changes is.rising)))

-- the changes that a view shows after a revision
pub later_seen : (h : History) (r : ℕ) → IsHistory h → h.compacted ≤ r → up_to h.current (later r h.changes) ≡ later r (view h).changes
later_seen h r is le = later_up_to h r is ∙ sym (later-later h.compacted r h.changes le)

between_is : (h : History) (r : ℕ) → h.compacted ≤ r → r ≤ h.current → between_marks h r ≡ r
between_is h r low high = omega arith

-- a prune is seen as a compaction
pub view_prunes : (h : History) (r : ℕ) → IsHistory h → h.compacted ≤ r → r ≤ h.current → view (pruned (between_marks h r) h) ≡ compacted_in r (view h)
view_prunes h r is low high =
    ap (λ n. view (pruned n h)) (between_is h r low high)
    ∙ rw (kept_states r r h.current h.changes is.rising (omega arith), kept_later r r h.current h.changes is.rising (omega arith), view_states h r is low, later-later h.compacted r h.changes low) refl

pub pruned_stays : (h : History) (r : ℕ) → IsPruned h → r ≤ h.current → IsPruned (pruned (between_marks h r) h)
pruned_stays h r p high = let low : h.compacted ≤ h.current = p.is.low in pruned_is h (between_marks h r) p.is (omega arith)
