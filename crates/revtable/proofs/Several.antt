-- The rows once one more of several changes is written.
use Rattle.std.proofs.Common.{◌≡◌, ℕ, ◌+◌, ◌<◌, ◌≤◌, List, [], ◌∷◌, ◌++◌, length, map, take, get_or, refl, sym, ap, ap₂, subst, ◌∙◌, Option, arith}
use Rattle.std.proofs.lemmas.List.{length-map, length-take-le, map-append, take_all, take_more}
use Rattle.history.specs.declared.write.Write.{Write}
use Rattle.history.specs.History.{History, IsRising, last_revision, current_objects, written}
use Rattle.history.specs.Read.{key_of, write_of}
use Rattle.history.specs.Whole.{AreThere}
use Rattle.history.specs.Writes.{changes_by, written_all}
use Rattle.history.proofs.Writes.{compacted_all, current_all, rising_all, written_all-push}
use Rattle.revtable.specs.Spans.{Stored, history_of, rows_put, spans_of, stored_of, IsWritten}
use Rattle.revtable.proofs.Fields.{after_puts, put_in, put_is}

-- once the first i are written
abbrev pub so_far : History → List Write → ℕ → History
so_far h ws i = written_all h (map write_of (take i ws))

pub current_so_far : (h : History) (ws : List Write) (i : ℕ) → i ≤ length ws → (so_far h ws i).current ≡ h.current + i
current_so_far h ws i le = current_all h (map write_of (take i ws)) ∙ ap (λ n. h.current + n) (length-map (take i ws) write_of ∙ length-take-le i ws le)

pub compacted_so_far : (h : History) (ws : List Write) (i : ℕ) → (so_far h ws i).compacted ≡ h.compacted
compacted_so_far h ws i = compacted_all h (map write_of (take i ws))

pub next_so_far : (h : History) (ws : List Write) (i : ℕ) (w : Write) → i < length ws → w ≡ get_or ws i w → so_far h ws (i + 1) ≡ written (so_far h ws i) (write_of w).0 (write_of w).1
next_so_far h ws i w lt is =
    ap (λ l. written_all h (map write_of l)) (take_more ws i w lt ∙ ap (λ v. take i ws ++ v ∷ []) (sym is))
    ∙ ap (written_all h) (map-append write_of (take i ws) (w ∷ []))
    ∙ written_all-push h (map write_of (take i ws)) (write_of w)

pub put_so_far : (h : History) (ws : List Write) (i : ℕ) (w : Write) (n c : ℕ) (body : Option (List ℕ)) → i < length ws → w ≡ get_or ws i w → n ≡ h.current + i + 1 → c ≡ h.compacted → body ≡ (write_of w).1
    → put_in n c (key_of w.key) body (stored_of (so_far h ws i)) ≡ stored_of (so_far h ws (i + 1))
put_so_far h ws i w n c body lt is next low same =
    let now = current_so_far h ws i (omega arith) in
    ap (λ b. put_in n c (key_of w.key) b (stored_of (so_far h ws i))) same
    ∙ put_is n c (so_far h ws i) (key_of w.key) (write_of w).1 (omega arith) (low ∙ sym (compacted_so_far h ws i))
    ∙ ap stored_of (sym (next_so_far h ws i w lt is))

-- what stands once their rows are written
abbrev pub rows_so_far : History → List Write → ℕ → Stored
rows_so_far h ws i = record { spans = spans_of (so_far h ws i).changes; current = h.current; compacted = h.compacted }

pub row_so_far : (h : History) (ws : List Write) (i : ℕ) (w : Write) (n : ℕ) (body : Option (List ℕ)) → i < length ws → w ≡ get_or ws i w → n ≡ h.current + i + 1 → body ≡ (write_of w).1
    → rows_put n (key_of w.key) body (rows_so_far h ws i) ≡ rows_so_far h ws (i + 1)
row_so_far h ws i w n body lt is next same =
    ap (λ (st : Stored). record { spans = st.spans; current = h.current; compacted = h.compacted }) (put_so_far h ws i w n h.compacted body lt is next refl same)

pub all_so_far : (h : History) (ws : List Write) (i : ℕ) → length ws ≤ i → so_far h ws i ≡ written_all h (map write_of ws)
all_so_far h ws i le = ap (λ l. written_all h (map write_of l)) (take_all i ws le)

pub rising_so_far : (h : History) (ws : List Write) (i : ℕ) → IsRising 0 h.changes h.current → IsRising 0 (so_far h ws i).changes (so_far h ws i).current
rising_so_far h ws i rising = rising_all h (map write_of (take i ws)) rising

-- and once the two numbers are set
pub marked_so_far : (h : History) (ws : List Write) (i n c : ℕ) → i ≤ length ws → length ws ≤ i → n ≡ h.current + i → c ≡ h.compacted
    → record { spans = (rows_so_far h ws i).spans; current = n; compacted = c } ≡ stored_of (written_all h (map write_of ws))
marked_so_far h ws i n c few all next low =
    ap₂ (λ p q. record { spans = spans_of (so_far h ws i).changes; current = p; compacted = q }) (next ∙ sym (current_so_far h ws i few)) (low ∙ sym (compacted_so_far h ws i))
    ∙ ap stored_of (all_so_far h ws i all)

-- the table's fields hold the numbers too
pub puts_stand : (current compacted : ℕ) (log new : Stored) (self : History) (writes : List Write) → IsWritten log → compacted ≡ log.compacted → history_of log ≡ self → current ≡ self.current
    → self.current + length writes ≤ last_revision → AreThere (current_objects self) (changes_by self.current (map write_of writes)) → new ≡ stored_of (written_all (history_of log) (map write_of writes))
    → (IsWritten new × (current + length writes ≡ new.current) × (compacted ≡ new.compacted)) × (history_of new ≡ written_all self (map write_of writes))
puts_stand current compacted log new self writes w low is now fits there made =
    let h = history_of log in
    let ws = map write_of writes in
    let count : length ws ≡ length writes = length-map writes write_of in
    let same : h.current ≡ self.current = ap (λ (g : History). g.current) is in
    let all = after_puts log ws w (omega (arith, fits, count, same)) (subst (λ g. AreThere (current_objects g) (changes_by g.current ws)) (sym is) there) in
    let next : new.current ≡ h.current + length ws = ap (λ (st : Stored). st.current) made ∙ current_all h ws in (
      (subst IsWritten (sym made) all.0, omega (arith, now, count, same, next), low ∙ sym (compacted_all h ws) ∙ sym (ap (λ (st : Stored). st.compacted) made)),
      ap history_of made ∙ all.1 ∙ ap (λ g. written_all g ws) is,
    )
