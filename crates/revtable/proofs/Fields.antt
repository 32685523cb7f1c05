-- What stands in the tables after a call: the history that it is.
use Rattle.std.proofs.Common.{◌≡◌, ℕ, suc, ◌+◌, ◌≤◌, ◌<◌, List, [], ◌∷◌, ◌++◌, length, map, min, max, None, refl, sym, ap, ap₂, subst, ◌∙◌, Option, Bor, option_map, arith, Some, Bool, true, false, cond, not, ◌&&◌, is_some, true≢false}
use Rattle.std.specs.Prelude.{is_none}
use Rattle.std.specs.FinMap as fin
use Rattle.std.specs.List.{AllByRecursion}
use Rattle.history.specs.History.{Key, Change, History, IsRising, is_same_key, last_revision, current_objects, written}
use Rattle.history.specs.declared.write.Write.{Write}
use Rattle.history.specs.Read.{write_of}
use Rattle.history.specs.Kept.{IsPruned, between_marks, kept, pruned}
use Rattle.history.specs.Whole.{AreThere}
use Rattle.history.specs.Writes.{changes_by, written_all}
use Rattle.history.proofs.Kept.{pruned_is}
use Rattle.history.proofs.Revisions.{rising-filter}
use Rattle.history.proofs.Writes.{kept_all, there_all}
use Rattle.revtable.specs.Rows.{IsOrdered, AreBelow}
use Rattle.revtable.specs.Spans.{Span, Stored, changes_in, end_at, ended_by, history_of, next_of, pruned_in, rows_put, spans_of, spans_until, stored_of, without_ended, IsWritten}
use Rattle.revtable.proofs.Forgets.{kept_there, without_is}
use Rattle.revtable.proofs.Merged.{changes_back}
use Rattle.revtable.proofs.Nexts.{all_begin}
use Rattle.revtable.proofs.Puts.{spans_push}
use Rattle.history.proofs.Revisions.{all_above, all_within}
use Rattle.sqlite_keyed.proofs.ListLemmas.{all_weaker}

-- ---- the rows stand in order

abbrev pub next_change : ℕ → Key → Option (List ℕ) → Change
next_change n k body = record { revision = n; key = k; body = body }

spans_up : (lo top : ℕ) (cs : List Change) → IsRising lo cs top → IsOrdered (spans_of cs)
spans_up lo top [] rise = tt
spans_up lo top (c ∷ cs) rise = go c.body (next_of c.key cs) (spans_up c.revision top cs rise.1)
  where
    later : AllByRecursion (λ s. c.revision < s.first) (spans_of cs)
    later = all_begin (λ n. c.revision < n) cs (all_above c.revision top cs rise.1)

    go : (b : Option (List ℕ)) (n : Option Change) → IsOrdered (spans_of cs) → IsOrdered (spans_until c.key c.revision b n ++ spans_of cs)
    go None n more = more
    go (Some body) None more = (later, more)
    go (Some body) (Some n) more = (later, more)

pub ordered_rows : (cs : List Change) (top : ℕ) (spans : List Span) → IsRising 0 cs top → spans ≡ spans_of cs → IsOrdered spans
ordered_rows cs top spans rise is = subst IsOrdered (sym is) (spans_up 0 top cs rise)

pub below_rows : (cs : List Change) (top n : ℕ) (spans : List Span) → IsRising 0 cs top → top < n → spans ≡ spans_of cs → AreBelow n spans
below_rows cs top n spans rise lt is =
    subst (AreBelow n) (sym is) (all_begin (λ m. m < n) cs (all_weaker (λ c. c.revision ≤ top) (λ c. c.revision < n) (λ c (le : c.revision ≤ top). omega arith) cs (all_within 0 top cs rise)))

pub below_ended : (cs : List Change) (top n : ℕ) (k : Key) (r : ℕ) (g : Bool) (spans : List Span) → IsRising 0 cs top → top < n → spans ≡ spans_of cs → AreBelow n (ended_by k r g spans)
below_ended cs top n k r g spans rise lt is = go spans (below_rows cs top n spans rise lt is)
  where
    one : (b : Bool) (s : Span) → s.first < n → (cond b (end_at r g s) s).first < n
    one true s lt = lt
    one false s lt = lt

    go : (ss : List Span) → AreBelow n ss → AreBelow n (ended_by k r g ss)
    go [] h = tt
    go (s ∷ ss) h = (one (is_same_key k s.key && is_none s.ended) s h.0, go ss h.1)

-- ---- once a change is written

-- what stands is a history whose changes are all kept ones, where each deletion is of an object that is there
pub written_rows : (h : History) → IsPruned h → AreThere fin.empty h.changes → IsWritten (stored_of h) × (history_of (stored_of h) ≡ h)
written_rows h p there =
    let back : changes_in (spans_of h.changes) ≡ h.changes = changes_back 0 h.current h.changes p.is.rising there in
    let same : history_of (stored_of h) ≡ h = ap (λ l. record { changes = l; current = h.current; compacted = h.compacted }) back in
    (record { pruned = subst IsPruned (sym same) p; there = subst (AreThere fin.empty) (sym back) there; rows = ap spans_of (sym back) }, same)

pub stored_back : (st : Stored) → IsWritten st → stored_of (history_of st) ≡ st
stored_back st w = ap (λ l. record { spans = l; current = st.current; compacted = st.compacted }) (sym w.rows)

-- the rows once a change is written, and the two numbers set
abbrev pub put_in : ℕ → ℕ → Key → Option (List ℕ) → Stored → Stored
put_in current compacted k body st = record { spans = (rows_put current k body st).spans; current = current; compacted = compacted }

pub put_is : (n c : ℕ) (h : History) (k : Key) (body : Option (List ℕ)) → n ≡ suc h.current → c ≡ h.compacted → put_in n c k body (stored_of h) ≡ stored_of (written h k body)
put_is n c h k body next low =
    ap₂ (λ p q. put_in p q k body (stored_of h)) next low
    ∙ ap (λ l. record { spans = l; current = suc h.current; compacted = h.compacted }) (sym (spans_push h.changes (next_change (suc h.current) k body)))

-- of several writes
pub after_puts : (st : Stored) (ws : List (Key × Option (List ℕ))) → IsWritten st → st.current + length ws ≤ last_revision → AreThere (current_objects (history_of st)) (changes_by st.current ws)
    → IsWritten (stored_of (written_all (history_of st) ws)) × (history_of (stored_of (written_all (history_of st) ws)) ≡ written_all (history_of st) ws)
after_puts st ws w fits there =
    let h = history_of st in
    written_rows (written_all h ws) (kept_all h ws w.pruned fits) (there_all h ws w.pruned.is.rising w.there there)

pub still_none : {X Y : Type 0} (f : X → Y) (o : Option X) → is_none o ≡ is_none (option_map f o)
still_none f None = refl
still_none f (Some x) = refl

-- what `is_none` answers
pub none_if : {X : Type 0} (o : Option X) (b : Bool) → is_some o ≡ not b → b ≡ is_none o
none_if None true e = refl
none_if None false e = absurd (true≢false (sym e))
none_if (Some x) true e = absurd (true≢false e)
none_if (Some x) false e = refl

none_back : (o : Option (Bor (List ℕ))) → option_map (λ b. b.now) o ≡ None → o ≡ None
none_back None e = refl
none_back (Some b) e = absurd cc

-- one write
pub one_there : (h : History) (w : Write) (k : Key) (body : Option (Bor (List ℕ))) → write_of w ≡ (k, option_map (λ b. b.now) body) → (body ≡ None → fin.contains_key (current_objects h) k ≡ true)
    → AreThere (current_objects h) (changes_by h.current (map write_of (w ∷ [])))
one_there h w k body is there = subst (λ p. AreThere (current_objects h) (changes_by h.current (p ∷ []))) (sym is) ((λ none. there (none_back body none)), tt)

pub one_written : (h : History) (w : Write) (k : Key) (body : Option (List ℕ)) → write_of w ≡ (k, body) → written_all h (map write_of (w ∷ [])) ≡ written h k body
one_written h w k body is = ap (λ p. written_all h (p ∷ [])) is

-- ---- once it is compacted

pub after_prune : (to : ℕ) (st : Stored) → IsWritten st → to ≤ st.current → IsWritten (pruned_in st.current to st) × (history_of (pruned_in st.current to st) ≡ pruned to (history_of st))
after_prune to st w le =
    let cs = changes_in st.spans in
    let new = pruned_in st.current to st in
    let rising : IsRising 0 cs st.current = w.pruned.is.rising in
    let rows : new.spans ≡ spans_of (kept to cs) = ap (without_ended to) w.rows ∙ without_is to st.current cs rising in
    let all : AreThere fin.empty (kept to cs) = kept_there to st.current cs rising le w.there in
    let back : changes_in new.spans ≡ kept to cs = ap changes_in rows ∙ changes_back 0 st.current (kept to cs) (rising-filter _ 0 st.current cs rising) all in (
      record {
        pruned = subst (λ l. IsPruned (record { changes = l; current = st.current; compacted = to })) (sym back) (pruned_is (history_of st) to w.pruned.is le);
        there = subst (AreThere fin.empty) (sym back) all;
        rows = rows ∙ ap spans_of (sym back);
      },
      ap (λ l. record { changes = l; current = st.current; compacted = to }) back,
    )

pub prune_stands : (r low to current compacted : ℕ) (log new : Stored) (self : History) → IsWritten log → current ≡ log.current → compacted ≡ log.compacted → history_of log ≡ self → low ≡ min r current → to ≡ max low compacted
    → new ≡ pruned_in current to log → (IsWritten new × (current ≡ new.current) × (to ≡ new.compacted)) × (history_of new ≡ pruned (between_marks self r) self)
prune_stands r low to current compacted log new self w top bottom is low_is to_is made =
    let e : new ≡ pruned_in log.current to log = made ∙ ap (λ p. pruned_in p to log) top in
    let fits : log.compacted ≤ log.current = w.pruned.is.low in
    let all = after_prune to log w (omega arith) in
    let between : to ≡ between_marks (history_of log) r = to_is ∙ ap₂ max (low_is ∙ ap (min r) top) bottom in
    ((subst IsWritten (sym e) all.0, top ∙ sym (ap (λ (st : Stored). st.current) e), sym (ap (λ (st : Stored). st.compacted) e)), ap history_of e ∙ all.1 ∙ ap (λ n. pruned n (history_of log)) between ∙ ap (λ h. pruned (between_marks h r) h) is)
