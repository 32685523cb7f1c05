-- A watch sends all: what its turns sent and what is still to come are what there was to send.
use Rattle.std.proofs.Common.{◌≡◌, ℕ, zero, suc, ◌-◌, ◌<◌, ◌≤◌, Bool, true, false, cond, List, [], ◌++◌, length, take, drop, map, Option, None, Some, refl, sym, ap, ap₂, subst, ◌∙◌, arith, append_assoc, le-ltb, zero-le, take-append-drop}
use Rattle.std.specs.Prelude.{nat_lt}
use Rattle.std.proofs.lemmas.List.{append_cancel_right, map-append}
use Rattle.std.specs.FinMap as fin
use Rattle.history.specs.History.{History, IsHistory, IsRising, Key, Object, compacted_to, last_revision, state_at, written}
use Rattle.history.specs.Seen.{Selection, reached, seen_changes, selected, last_key}
use Rattle.history.proofs.Following.{prefix_seen, seen_changes-push}
use Rattle.history.proofs.Revisions.{rising-push, state_at-push}
use Rattle.watchline.specs.Lines.{added, bookmark_line, line_of}
use Rattle.watchline.specs.Watches.{Cursor, BookmarkTurn, Turn, changes_left, changes_sent, coming, entries_left, from_history, is_bookmark_due, initial_left_by_next, initial_left_after_count, moved, no_initial_left, objects_left, position_by, pumped, sending, wanted}
use Rattle.watchline.proofs.Onward.{leads_on, seen_split, stays_low, sends, sent_low}
use Rattle.line_laws.specs.Following.{Event, Followed, IsAllowed, after, compaction, mark, opened_at, turn, write}

abbrev pub Entries : Type 0
Entries = List (Key × Object)

-- all that there was to send by now, of objects and of changes after a position
abbrev pub Whole : Entries → Selection → ℕ → History → List (List ℕ)
Whole objects seen p h = map line_of (map added objects ++ seen_changes seen h.changes p h.current)

pub record SendsAll (objects : Entries) (start : Cursor) (f : Followed) : Type 0 where
  pub is : IsHistory f.history
  pub same : wanted f.cursor ≡ wanted start
  pub low : start.position ≤ f.cursor.position
  pub high : f.cursor.position ≤ f.history.current
  pub done : start.left ≡ no_initial_left → f.cursor.left ≡ no_initial_left
  pub all : f.lines ++ map line_of (coming (from_history f.history) f.cursor) ≡ Whole objects (wanted start) start.position f.history

-- ---- a turn

none_stays : (room : ℕ) → initial_left_after_count room [] no_initial_left ≡ no_initial_left
none_stays zero = refl
none_stays (suc n) = ap (λ b. initial_left_by_next (cond b (last_key (take (suc n) [])) None)) (le-ltb (suc n) 0 zero-le)

pub left_stays : (h : History) (room : ℕ) (w : Cursor) → w.left ≡ no_initial_left → (sending (from_history h) room w).next.left ≡ no_initial_left
left_stays h room w none =
    ap (λ l. initial_left_after_count room (entries_left w.kind l (fin.entries (selected (wanted w) (state_at h.changes w.position)))) l) none ∙ none_stays room

stands_within : (top q : ℕ) (b : Bool) → q ≤ top → position_by b top q ≤ top
stands_within top q true h = omega (arith, h)
stands_within top q false h = h

turn_within : (h : History) (room : ℕ) (w : Cursor) → IsHistory h → w.position ≤ h.current → (sending (from_history h) room w).next.position ≤ h.current
turn_within h room w is high =
    let n = room - length (objects_left (from_history h) w) in
    stands_within h.current (reached w.position (changes_sent (from_history h) room w)) (nat_lt (length (coming (from_history h) w)) room)
    (prefix_seen (wanted w) h.changes h.current n w.position (seen_changes (wanted w) h.changes w.position h.current) is.rising high refl).high

turn_rises : (h : History) (room : ℕ) (w : Cursor) → IsHistory h → w.position ≤ h.current → w.position ≤ (sending (from_history h) room w).next.position
turn_rises h room w is high =
    let at_place : History = compacted_to w.position h in
    let is_too : IsHistory at_place = record { rising = is.rising; low = high; high = is.high } in
    let even : w.position ≤ w.position = omega arith in
    subst (λ (t : Turn). w.position ≤ t.next.position) (sent_low at_place room w even) (stays_low at_place room w is_too even)

turn_lines : (h : History) (room : ℕ) (w : Cursor) → IsHistory h → h.compacted ≤ w.position
    → (pumped (from_history h) room w).lines ++ map line_of (coming (from_history h) (pumped (from_history h) room w).next) ≡ map line_of (coming (from_history h) w)
turn_lines h room w is low =
    ap₂ (λ xs ys. xs ++ map line_of ys) (sends h room w is low) (leads_on h room w is low)
    ∙ sym (map-append line_of (take room (coming (from_history h) w)) (drop room (coming (from_history h) w)))
    ∙ ap (map line_of) (take-append-drop room (coming (from_history h) w))

turn_sends : (objects : Entries) (start : Cursor) (room : ℕ) (f : Followed) → f.history.compacted ≤ f.cursor.position → SendsAll objects start f → SendsAll objects start (after (turn room) f)
turn_sends objects start room f may t =
    let h = f.history in
    let w = f.cursor in
    let sent : pumped (from_history h) room w ≡ sending (from_history h) room w = sent_low h room w may in
    let low : start.position ≤ w.position = t.low in
    let up : w.position ≤ (sending (from_history h) room w).next.position = turn_rises h room w t.is t.high in
    record {
      is = t.is;
      same = ap (λ (u : Turn). wanted u.next) sent ∙ t.same;
      low = subst (λ (u : Turn). start.position ≤ u.next.position) (sym sent) (omega (arith, low, up));
      high = subst (λ (u : Turn). u.next.position ≤ h.current) (sym sent) (turn_within h room w t.is t.high);
      done = λ none. ap (λ (u : Turn). u.next.left) sent ∙ left_stays h room w (t.done none);
      all = append_assoc f.lines (pumped (from_history h) room w).lines (map line_of (coming (from_history h) (pumped (from_history h) room w).next))
          ∙ ap (λ ls. f.lines ++ ls) (turn_lines h room w t.is may) ∙ t.all;
    }

-- ---- a bookmark

abbrev pub marked_line : List ℕ → List ℕ → Cursor → BookmarkTurn
marked_line api_version kind w = record { line = Some (bookmark_line api_version kind w.position); next = moved w w.position w.position w.left }

abbrev pub unmarked : Cursor → BookmarkTurn
unmarked w = record { line = None; next = w }

pub mark_sends : (objects : Entries) (start : Cursor) (api_version kind : List ℕ) (f : Followed) → SendsAll objects start f → SendsAll objects start (after (mark api_version kind) f)
mark_sends objects start api_version kind f t = by_due (is_bookmark_due f.cursor) refl
  where
    by_due : (b : Bool) → is_bookmark_due f.cursor ≡ b → SendsAll objects start (after (mark api_version kind) f)
    by_due true is = subst (λ c. SendsAll objects start (record { history = f.history; cursor = c; lines = f.lines })) (sym (ap (λ b. (cond b (marked_line api_version kind f.cursor) (unmarked f.cursor)).next) is))
        (record { is = t.is; same = t.same; low = t.low; high = t.high; done = t.done; all = t.all })
    by_due false is = subst (λ c. SendsAll objects start (record { history = f.history; cursor = c; lines = f.lines })) (sym (ap (λ b. (cond b (marked_line api_version kind f.cursor) (unmarked f.cursor)).next) is)) t

-- ---- a write

module _ (h : History) (k : Key) (body : Option (List ℕ)) (is : IsHistory h) where
  pub rising_on : IsRising 0 (written h k body).changes (suc h.current)
  rising_on = rising-push 0 h.current h.changes (record { revision = suc h.current; key = k; body = body }) refl is.rising

  -- the same up to now, and then the write
  seen_on : (seen : Selection) (p : ℕ) → p ≤ h.current
      → seen_changes seen (written h k body).changes p (suc h.current) ≡ seen_changes seen h.changes p h.current ++ seen_changes seen (written h k body).changes h.current (suc h.current)
  seen_on seen p high =
      let below : p < suc h.current = omega (arith, high) in
      let now : h.current < suc h.current = omega arith in
      let next : h.current ≤ suc h.current = omega arith in
      seen_split seen (written h k body).changes p h.current (suc h.current) (suc h.current) high next rising_on
      ∙ ap (λ xs. xs ++ seen_changes seen (written h k body).changes h.current (suc h.current))
      (seen_changes-push seen h.changes (record { revision = suc h.current; key = k; body = body }) p h.current below now)

  objects_on : (w : Cursor) → w.position ≤ h.current → objects_left (from_history (written h k body)) w ≡ objects_left (from_history h) w
  objects_on w high =
      ap (λ s. entries_left w.kind w.left (fin.entries (selected (wanted w) s)))
      (state_at-push h.changes w.position (record { revision = suc h.current; key = k; body = body }) (omega (arith, high)))

  coming_on : (w : Cursor) → w.position ≤ h.current
      → coming (from_history (written h k body)) w ≡ coming (from_history h) w ++ seen_changes (wanted w) (written h k body).changes h.current (suc h.current)
  coming_on w high =
      ap₂ (λ es xs. map added es ++ xs) (objects_on w high) (seen_on (wanted w) w.position high)
      ∙ sym (append_assoc (map added (objects_left (from_history h) w)) (changes_left (from_history h) w) (seen_changes (wanted w) (written h k body).changes h.current (suc h.current)))

pub write_sends : (objects : Entries) (start : Cursor) (k : Key) (body : Option (List ℕ)) (f : Followed) → suc f.history.current ≤ last_revision → SendsAll objects start f
    → SendsAll objects start (after (write k body) f)
write_sends objects start k body f may t =
    let h = f.history in
    let w = f.cursor in
    let new = seen_changes (wanted start) (written h k body).changes h.current (suc h.current) in
    let first = start.position in
    let low : start.position ≤ w.position = t.low in
    let high : w.position ≤ h.current = t.high in
    let old : h.compacted ≤ h.current = t.is.low in
    let begins : start.position ≤ h.current = omega (arith, low, high) in
    record {
      is = record { rising = rising_on h k body t.is; low = omega (arith, old); high = may };
      same = t.same;
      low = t.low;
      high = omega (arith, high);
      done = t.done;
      all = ap (λ xs. f.lines ++ map line_of xs) (coming_on h k body t.is w high)
          ∙ ap (λ s. f.lines ++ map line_of (coming (from_history h) w ++ seen_changes s (written h k body).changes h.current (suc h.current))) t.same
          ∙ ap (λ ls. f.lines ++ ls) (map-append line_of (coming (from_history h) w) new)
          ∙ sym (append_assoc f.lines (map line_of (coming (from_history h) w)) (map line_of new))
          ∙ ap (λ ls. ls ++ map line_of new) t.all
          ∙ sym (map-append line_of (map added objects ++ seen_changes (wanted start) h.changes first h.current) new)
          ∙ ap (map line_of) (append_assoc (map added objects) (seen_changes (wanted start) h.changes first h.current) new
          ∙ ap (λ xs. map added objects ++ xs) (sym (seen_on h k body t.is (wanted start) first begins)));
    }

-- ---- all of them

pub step_sends : (objects : Entries) (start : Cursor) (e : Event) (f : Followed) → IsAllowed e f → SendsAll objects start f → SendsAll objects start (after e f)
step_sends objects start (turn room) f may t = turn_sends objects start room f may t
step_sends objects start (mark api_version kind) f may t = mark_sends objects start api_version kind f t
step_sends objects start (write k body) f may t = write_sends objects start k body f may t
step_sends objects start (compaction r) f may t = record { is = record { rising = t.is.rising; low = may.1; high = t.is.high }; same = t.same; low = t.low; high = t.high; done = t.done; all = t.all }

pub begins_sending : (h : History) (w : Cursor) → IsHistory h → w.position ≤ h.current → SendsAll (objects_left (from_history h) w) w (opened_at h w)
begins_sending h w is high = record { is = is; same = refl; low = omega arith; high = high; done = λ none. none; all = refl }

-- once no object is left, up to where it stands
pub sent_up_to : (objects : Entries) (w : Cursor) (f : Followed) → f.cursor.left ≡ no_initial_left → SendsAll objects w f
    → f.lines ≡ map line_of (map added objects ++ seen_changes (wanted w) f.history.changes w.position f.cursor.position)
sent_up_to objects w f none t =
    let h = f.history in
    let changes = seen_changes (wanted w) h.changes w.position f.cursor.position in
    let left = seen_changes (wanted w) h.changes f.cursor.position h.current in
    let coming_is : coming (from_history h) f.cursor ≡ left =
    ap (λ l. map added (entries_left f.cursor.kind l (fin.entries (selected (wanted f.cursor) (state_at h.changes f.cursor.position)))) ++ changes_left (from_history h) f.cursor) none
    ∙ ap (λ s. seen_changes s h.changes f.cursor.position h.current) t.same in
    append_cancel_right f.lines (map line_of (map added objects ++ changes)) (map line_of left) (
    ap (λ xs. f.lines ++ map line_of xs) (sym coming_is) ∙ t.all
    ∙ ap (λ xs. map line_of (map added objects ++ xs)) (seen_split (wanted w) h.changes w.position f.cursor.position h.current h.current t.low t.high t.is.rising)
    ∙ ap (map line_of) (sym (append_assoc (map added objects) changes left))
    ∙ map-append line_of (map added objects ++ changes) left
    )

-- without objects
pub only_changes : (objects : Entries) (w : Cursor) (f : Followed) → objects ≡ [] → w.left ≡ no_initial_left → SendsAll objects w f
    → f.lines ≡ map line_of (seen_changes (wanted w) f.history.changes w.position f.cursor.position)
only_changes objects w f no_objects none t =
    sent_up_to objects w f (t.done none) t ∙ ap (λ es. map line_of (map added es ++ seen_changes (wanted w) f.history.changes w.position f.cursor.position)) no_objects
