-- A watch that waits for a revision still to come sends nothing until it is there, and from then on as any other.
use Rattle.std.proofs.Common.{◌≡◌, ℕ, suc, ◌-◌, ◌<◌, ◌≤◌, nat_lt, Bool, true, false, cond, List, [], ◌∷◌, ◌++◌, length, take, map, Option, ◌⊎◌, inl, inr, refl, sym, ap, ap₂, subst, ◌∙◌, arith, zero-le, true≢false}
use Rattle.std.specs.Prelude.{◌&&◌}
use Rattle.std.proofs.lemmas.Bool.{and_parts, cases_lt}
use Rattle.std.proofs.lemmas.List.{take_all}
use Rattle.std.specs.FinMap as fin
use Rattle.history.specs.History.{Change, History, IsHistory, IsRising, Key, last_revision, later, state_at, up_to}
use Rattle.history.specs.Seen.{SeenChange, Selection, reached, seen_among, seen_changes, selected}
use Rattle.history.proofs.Revisions.{later-drops, rising_ends}
use Rattle.watchline.specs.Lines.{added, line_of}
use Rattle.watchline.specs.Watches.{Cursor, InitialLeft, Turn, changes_left, coming, entries_left, from_history, is_bookmark_due, is_none_left, initial_left_from, no_initial_left, objects_left, position_by, pumped, sending, wanted}
use Rattle.watchline.proofs.Onward.{none_between, sends, sent_low}
use Rattle.line_laws.specs.Following.{AreAllowed, Event, Followed, IsAllowed, MayBegin, after, compaction, followed, mark, opened_at, turn, write}
use Rattle.line_laws.proofs.Sent.{Entries, SendsAll, Whole, begins_sending, left_stays, marked_line, only_changes, rising_on, step_sends, sent_up_to, unmarked, write_sends}

-- it stands where it was opened, at or past the current revision, and has sent nothing
record Waits (start : Cursor) (f : Followed) : Type 0 where
  is : IsHistory f.history
  same : wanted f.cursor ≡ wanted start
  stays : f.cursor.position ≡ start.position
  ahead : f.history.current ≤ start.position
  none : f.cursor.left ≡ no_initial_left
  silent : f.lines ≡ []

-- ---- nothing is coming

none_later : (lo r top : ℕ) (cs : List Change) → top ≤ r → IsRising lo cs top → later r cs ≡ []
none_later lo r top [] h rise = refl
none_later lo r top (c ∷ cs) h rise =
    let within : c.revision ≤ top = rising_ends c.revision top cs rise.1 in
    later-drops r c cs (omega (arith, within, h)) ∙ none_later c.revision r top cs h rise.1

none_taken : (n : ℕ) (xs : List SeenChange) → xs ≡ [] → take n xs ≡ []
none_taken n xs is = ap (take n) is ∙ take_all n [] zero-le

module _ (h : History) (w : Cursor) (is : IsHistory h) (ahead : h.current ≤ w.position) (none : w.left ≡ no_initial_left) where
  no_changes : changes_left (from_history h) w ≡ []
  no_changes = ap (λ cs. seen_among (wanted w) (state_at h.changes w.position) (up_to h.current cs)) (none_later 0 w.position h.current h.changes ahead is.rising)

  no_objects : objects_left (from_history h) w ≡ []
  no_objects = ap (λ l. entries_left w.kind l (fin.entries (selected (wanted w) (state_at h.changes w.position)))) none

  nothing_coming : coming (from_history h) w ≡ []
  nothing_coming = ap₂ (λ es xs. map added es ++ xs) no_objects no_changes

  stands_on : (b : Bool) → position_by b h.current w.position ≡ w.position
  stands_on true = omega (arith, ahead)
  stands_on false = refl

  turn_stands : (room : ℕ) → (sending (from_history h) room w).next.position ≡ w.position
  turn_stands room =
      let b = nat_lt (length (coming (from_history h) w)) room in
      let n = room - length (objects_left (from_history h) w) in
      ap (λ xs. position_by b h.current (reached w.position xs)) (none_taken n (changes_left (from_history h) w) no_changes) ∙ stands_on b

  turn_silent : (room : ℕ) → h.compacted ≤ w.position → (pumped (from_history h) room w).lines ≡ []
  turn_silent room low = sends h room w is low ∙ ap (map line_of) (none_taken room (coming (from_history h) w) nothing_coming)

-- ---- event by event

turn_waits : (start : Cursor) (room : ℕ) (f : Followed) → f.history.compacted ≤ f.cursor.position → Waits start f → Waits start (after (turn room) f)
turn_waits start room f may t =
    let h = f.history in
    let w = f.cursor in
    let sent : pumped (from_history h) room w ≡ sending (from_history h) room w = sent_low h room w may in
    let ahead : h.current ≤ w.position = subst (λ p. h.current ≤ p) (sym t.stays) t.ahead in
    record {
      is = t.is;
      same = ap (λ (u : Turn). wanted u.next) sent ∙ t.same;
      stays = ap (λ (u : Turn). u.next.position) sent ∙ turn_stands h w t.is ahead t.none room ∙ t.stays;
      ahead = t.ahead;
      none = ap (λ (u : Turn). u.next.left) sent ∙ left_stays h room w t.none;
      silent = ap₂ (λ xs ys. xs ++ ys) t.silent (turn_silent h w t.is ahead t.none room may);
    }

mark_waits : (start : Cursor) (api_version kind : List ℕ) (f : Followed) → Waits start f → Waits start (after (mark api_version kind) f)
mark_waits start api_version kind f t = by_due (is_bookmark_due f.cursor) refl
  where
    by_due : (b : Bool) → is_bookmark_due f.cursor ≡ b → Waits start (after (mark api_version kind) f)
    by_due true is = subst (λ c. Waits start (record { history = f.history; cursor = c; lines = f.lines })) (sym (ap (λ b. (cond b (marked_line api_version kind f.cursor) (unmarked f.cursor)).next) is))
        (record { is = t.is; same = t.same; stays = t.stays; ahead = t.ahead; none = t.none; silent = t.silent })
    by_due false is = subst (λ c. Waits start (record { history = f.history; cursor = c; lines = f.lines })) (sym (ap (λ b. (cond b (marked_line api_version kind f.cursor) (unmarked f.cursor)).next) is)) t

write_waits : (start : Cursor) (k : Key) (body : Option (List ℕ)) (f : Followed) → suc f.history.current ≤ last_revision → f.history.current < start.position → Waits start f
    → Waits start (after (write k body) f)
write_waits start k body f may below t =
    let old : f.history.compacted ≤ f.history.current = t.is.low in
    record {
      is = record { rising = rising_on f.history k body t.is; low = omega (arith, old); high = may };
      same = t.same;
      stays = t.stays;
      ahead = omega (arith, below);
      none = t.none;
      silent = t.silent;
    }

-- ---- once the revision is there

waits_all : (objects : Entries) (start : Cursor) (f : Followed) → objects ≡ [] → Waits start f → f.lines ++ map line_of (coming (from_history f.history) f.cursor) ≡ Whole objects (wanted start) start.position f.history
waits_all objects start f no_objects t =
    let h = f.history in
    let w = f.cursor in
    ap (λ ls. ls ++ map line_of (coming (from_history h) w)) t.silent
    ∙ ap (λ l. map line_of (map added (entries_left w.kind l (fin.entries (selected (wanted w) (state_at h.changes w.position)))) ++ changes_left (from_history h) w)) t.none
    ∙ ap₂ (λ (s : Selection) (p : ℕ). map line_of (seen_changes s h.changes p h.current)) t.same t.stays
    ∙ ap (λ es. map line_of (map added es ++ seen_changes (wanted start) h.changes start.position h.current)) (sym no_objects)

waits_send : (objects : Entries) (start : Cursor) (f : Followed) → objects ≡ [] → start.position ≤ f.history.current → Waits start f → SendsAll objects start f
waits_send objects start f no_objects there t =
    let stays : f.cursor.position ≡ start.position = t.stays in
    record {
      is = t.is;
      same = t.same;
      low = omega (arith, stays);
      high = omega (arith, stays, there);
      done = λ _. t.none;
      all = waits_all objects start f no_objects t;
    }

-- ---- all of them

abbrev Goes : Entries → Cursor → Followed → Type 0
Goes objects start f = Waits start f ⊎ SendsAll objects start f

module _ (objects : Entries) (start : Cursor) (no_objects : objects ≡ []) where
  write_goes : (k : Key) (body : Option (List ℕ)) (f : Followed) → suc f.history.current ≤ last_revision → Waits start f → (f.history.current < start.position) ⊎ (start.position ≤ f.history.current)
      → Goes objects start (after (write k body) f)
  write_goes k body f may t (inl below) = inl (write_waits start k body f may below t)
  write_goes k body f may t (inr there) = inr (write_sends objects start k body f may (waits_send objects start f no_objects there t))

  step_goes : (e : Event) (f : Followed) → IsAllowed e f → Goes objects start f → Goes objects start (after e f)
  step_goes e f may (inr t) = inr (step_sends objects start e f may t)
  step_goes (turn room) f may (inl t) = inl (turn_waits start room f may t)
  step_goes (mark api_version kind) f may (inl t) = inl (mark_waits start api_version kind f t)
  step_goes (write k body) f may (inl t) = write_goes k body f may t (cases_lt f.history.current start.position)
  step_goes (compaction r) f may (inl t) =
      inl (record { is = record { rising = t.is.rising; low = may.1; high = t.is.high }; same = t.same; stays = t.stays; ahead = t.ahead; none = t.none; silent = t.silent })

  all_go : (es : List Event) (f : Followed) → AreAllowed es f → Goes objects start f → Goes objects start (followed es f)
  all_go [] f may t = t
  all_go (e ∷ es) f may t = all_go es (after e f) may.1 (step_goes e f may.0 t)

  goes_all : (f : Followed) → Goes objects start f → f.lines ++ map line_of (coming (from_history f.history) f.cursor) ≡ Whole objects (wanted start) start.position f.history
  goes_all f (inl t) = waits_all objects start f no_objects t
  goes_all f (inr t) = t.all

  goes_changes : (f : Followed) → start.left ≡ no_initial_left → Goes objects start f → f.lines ≡ map line_of (seen_changes (wanted start) f.history.changes start.position f.cursor.position)
  goes_changes f none (inl t) =
      t.silent ∙ ap (map line_of) (sym (none_between (wanted start) f.history.changes start.position))
      ∙ ap (λ q. map line_of (seen_changes (wanted start) f.history.changes start.position q)) (sym t.stays)
  goes_changes f none (inr t) = only_changes objects start f no_objects none t

  goes_due : (f : Followed) → f.cursor.left ≡ no_initial_left → Goes objects start f
      → f.lines ≡ map line_of (map added objects ++ seen_changes (wanted start) f.history.changes start.position f.cursor.position)
  goes_due f none (inl t) =
      t.silent ∙ ap (map line_of) (sym (none_between (wanted start) f.history.changes start.position))
      ∙ ap (λ q. map line_of (seen_changes (wanted start) f.history.changes start.position q)) (sym t.stays)
      ∙ ap (λ es. map line_of (map added es ++ seen_changes (wanted start) f.history.changes start.position f.cursor.position)) (sym no_objects)
  goes_due f none (inr t) = sent_up_to objects start f none t

begins_by : (h : History) (w : Cursor) → IsHistory h → w.left ≡ no_initial_left → (h.current < w.position) ⊎ (w.position ≤ h.current) → Goes (objects_left (from_history h) w) w (opened_at h w)
begins_by h w is none (inl below) = inl (record { is = is; same = refl; stays = refl; ahead = omega (arith, below); none = none; silent = refl })
begins_by h w is none (inr there) = inr (begins_sending h w is there)

without_objects : (h : History) (w : Cursor) → w.left ≡ no_initial_left → objects_left (from_history h) w ≡ []
without_objects h w none = ap (λ l. entries_left w.kind l (fin.entries (selected (wanted w) (state_at h.changes w.position)))) none

goes_on : (h : History) (w : Cursor) (events : List Event) → IsHistory h → w.left ≡ no_initial_left → AreAllowed events (opened_at h w) → Goes (objects_left (from_history h) w) w (followed events (opened_at h w))
goes_on h w events is none may =
    all_go (objects_left (from_history h) w) w (without_objects h w none) events (opened_at h w) may (begins_by h w is none (cases_lt h.current w.position))

all_send : (objects : Entries) (start : Cursor) (es : List Event) (f : Followed) → AreAllowed es f → SendsAll objects start f → SendsAll objects start (followed es f)
all_send objects start [] f may t = t
all_send objects start (e ∷ es) f may t = all_send objects start es (after e f) may.1 (step_sends objects start e f may.0 t)

pub sends_all : (h : History) (w : Cursor) (events : List Event) → IsHistory h → MayBegin h w → AreAllowed events (opened_at h w)
    → (followed events (opened_at h w)).lines ++ map line_of (coming (from_history (followed events (opened_at h w)).history) (followed events (opened_at h w)).cursor)
    ≡ map line_of (map added (objects_left (from_history h) w) ++ seen_changes (wanted w) (followed events (opened_at h w)).history.changes w.position (followed events (opened_at h w)).history.current)
sends_all h w events is (inl none) may =
    goes_all (objects_left (from_history h) w) w (without_objects h w none) (followed events (opened_at h w)) (goes_on h w events is none may)
sends_all h w events is (inr there) may = (all_send (objects_left (from_history h) w) w events (opened_at h w) may (begins_sending h w is there)).all

pub sends_changes : (h : History) (w : Cursor) (events : List Event) → IsHistory h → w.left ≡ no_initial_left → AreAllowed events (opened_at h w)
    → (followed events (opened_at h w)).lines ≡ map line_of (seen_changes (wanted w) (followed events (opened_at h w)).history.changes w.position (followed events (opened_at h w)).cursor.position)
sends_changes h w events is none may =
    goes_changes (objects_left (from_history h) w) w (without_objects h w none) (followed events (opened_at h w)) none (goes_on h w events is none may)

-- ---- where a bookmark is due

is_none : (left : InitialLeft) → is_none_left left ≡ true → left ≡ no_initial_left
is_none no_initial_left h = refl
is_none (initial_left_from place) h = absurd (true≢false (sym h))

due_left : (w : Cursor) → is_bookmark_due w ≡ true → w.left ≡ no_initial_left
due_left w due =
    let behind = and_parts w.bookmarks (is_none_left w.left && nat_lt w.sent w.position) due in
    is_none w.left (and_parts (is_none_left w.left) (nat_lt w.sent w.position) behind.1).0

pub marks_behind : (h : History) (w : Cursor) (events : List Event) → IsHistory h → MayBegin h w → AreAllowed events (opened_at h w) → is_bookmark_due (followed events (opened_at h w)).cursor ≡ true
    → (followed events (opened_at h w)).lines
    ≡ map line_of (map added (objects_left (from_history h) w) ++ seen_changes (wanted w) (followed events (opened_at h w)).history.changes w.position (followed events (opened_at h w)).cursor.position)
marks_behind h w events is (inl none) may due =
    let f = followed events (opened_at h w) in
    goes_due (objects_left (from_history h) w) w (without_objects h w none) f (due_left f.cursor due) (goes_on h w events is none may)
marks_behind h w events is (inr there) may due =
    let f = followed events (opened_at h w) in
    sent_up_to (objects_left (from_history h) w) w f (due_left f.cursor due) (all_send (objects_left (from_history h) w) w events (opened_at h w) may (begins_sending h w is there))
