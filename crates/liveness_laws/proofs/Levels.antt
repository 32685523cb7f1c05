-- Where a watch stands after its turn: a pump of as many lines as revisions brings it to the current revision, and after a tick no bookmark is due.
use Rattle.std.proofs.Common.{◌≡◌, ◌∙◌, ℕ, ◌+◌, ◌<◌, ◌≤◌, ◌&&◌, Bool, true, false, cond, List, [], ◌∷◌, ◌++◌, length, map, Option, Some, refl, sym, ap, subst, arith}
use Rattle.std.proofs.lemmas.Bool.{le-ltb, lt-ltb}
use Rattle.std.specs.FinMap as fin
use Rattle.std.specs.Prelude.{nat_lt, slice_get, ⊤}
use Rattle.api_types.specs.TypesFile.{ServedShape}
use Rattle.history.specs.History.{Change, History, IsHistory, IsRising, Key, Object, state_at}
use Rattle.history.specs.Seen.{SeenChange, Selection, reached, seen_changes, selected}
use Rattle.history.proofs.Following.{next_seen}
use Rattle.history.proofs.Wholes.{whole_is}
use Rattle.watchline.specs.Lines.{added}
use Rattle.watchline.specs.Watches.{changes_left, changes_sent, coming, entries_left, expiring, from_history, is_bookmark_due, is_none_left, objects_left, position_by, position_past, sending, wanted}
use Rattle.line_laws.proofs.Sent.{marked_line, unmarked}
use Rattle.api_validation.specs.Envelope.{api_version_of}
use Rattle.verbs.specs.Machine.{IsMachine}
use Rattle.verbs.specs.Watching.{bookmarked_as, bookmarked_in}
use Rattle.httpedge.specs.Connections.{Phase, ended, gone, waiting, watching}
use Rattle.httpedge.specs.Steps.{phase_after}
use Rattle.httpedge.specs.Watches.{Watch, has_timed_out, pumped, ticked, turned, unless_ended, with_cursor}
use Rattle.world_laws.proofs.Passes.{IsTaskWatch}
use Rattle.world_laws.specs.Tasks.{IsStillTask, Task}

-- a watch stands at the revision, or above; or none watches
abbrev pub IsLevel : ℕ → Phase → Type 0
IsLevel current (watching w) = current ≤ w.cursor.position
IsLevel current (waiting bytes) = ⊤
IsLevel current ended = ⊤
IsLevel current (gone had_ended) = ⊤

-- and no bookmark is due
abbrev pub IsQuiet : ℕ → Phase → Type 0
IsQuiet current (watching w) = (current ≤ w.cursor.position) × (is_bookmark_due w.cursor ≡ false)
IsQuiet current (waiting bytes) = ⊤
IsQuiet current ended = ⊤
IsQuiet current (gone had_ended) = ⊤

-- ---- how many changes are seen

-- each has a revision of its own
pub few_seen : (seen : Selection) (cs : List Change) (top p : ℕ) (xs : List SeenChange) → IsRising 0 cs top → p ≤ top → seen_changes seen cs p top ≡ xs → length xs + p ≤ top
few_seen seen cs top p [] rise low is = omega (arith, low)
few_seen seen cs top p (x ∷ xs) rise low is =
    let next = next_seen seen cs top p x xs rise low is in
    let above : p < x.object.revision = next.above in
    let rest : length xs + x.object.revision ≤ top = few_seen seen cs top x.object.revision xs rise next.within next.rest in
    omega (arith, above, rest)

-- ---- a pump

module _ (task : Task) (types : List ServedShape) (m : History) (is_machine : IsMachine types m) (w : Watch) (own : IsTaskWatch task w) (some : 1 ≤ w.cursor.position) (come : w.cursor.position ≤ m.current) where
  history : IsHistory m
  history = whole_is is_machine.first m is_machine.whole

  pub none_before : objects_left (from_history m) w.cursor ≡ []
  none_before = ap (λ l. entries_left w.cursor.kind l (fin.entries (selected (wanted w.cursor) (state_at m.changes w.cursor.position)))) own.left

  fewer : length (changes_left (from_history m) w.cursor) < m.current
  fewer =
      let few : length (changes_left (from_history m) w.cursor) + w.cursor.position ≤ m.current = few_seen (wanted w.cursor) m.changes m.current w.cursor.position (changes_left (from_history m) w.cursor) history.rising come refl in
      omega (arith, few, some)

  has_room : nat_lt (length (coming (from_history m) w.cursor)) m.current ≡ true
  has_room =
      ap (λ (es : List (Key × Object)). nat_lt (length (map added es ++ changes_left (from_history m) w.cursor)) m.current) none_before
      ∙ lt-ltb (length (changes_left (from_history m) w.cursor)) m.current fewer

  position_is_high : m.current ≤ position_past (from_history m) m.current w.cursor
  position_is_high =
      let last : ℕ = reached w.cursor.position (changes_sent (from_history m) m.current w.cursor) in
      let at : position_past (from_history m) m.current w.cursor ≡ position_by true m.current last = ap (λ (b : Bool). position_by b m.current last) has_room in
      let high : m.current ≤ position_by true m.current last = omega arith in
      omega (arith, at, high)

  pub pump_levels : IsLevel m.current (phase_after (pumped m m.current w).next)
  pump_levels = by_test (nat_lt w.cursor.position m.compacted)
    where
      by_test : (b : Bool) → IsLevel m.current (phase_after (turned w (cond b (expiring (from_history m) w.cursor) (sending (from_history m) m.current w.cursor))).next)
      by_test true = tt
      by_test false = position_is_high

-- ---- a tick

none_due : (a b : Bool) → (a && (b && false)) ≡ false
none_due true true = refl
none_due true false = refl
none_due false b = refl

module _ (current : ℕ) (w : Watch) (level : current ≤ w.cursor.position) where
  marked_quiet : (api_version kind : List ℕ) (b : Bool) → is_bookmark_due w.cursor ≡ b
      → IsQuiet current (watching (with_cursor w (cond b (marked_line api_version kind w.cursor) (unmarked w.cursor)).next))
  marked_quiet api_version kind true due =
      (level, ap (λ (x : Bool). w.cursor.bookmarks && (is_none_left w.cursor.left && x)) (le-ltb w.cursor.position w.cursor.position (omega arith)) ∙ none_due w.cursor.bookmarks (is_none_left w.cursor.left))
  marked_quiet api_version kind false due = (level, due)

  over_quiet : (over : Bool) (v : Watch) → IsQuiet current (watching v) → IsQuiet current (phase_after (unless_ended over v))
  over_quiet true v quiet = tt
  over_quiet false v quiet = quiet

  pub tick_quiets : (task : Task) (types : List ServedShape) (ms : ℕ) → IsTaskWatch task w → IsStillTask types task → IsQuiet current (phase_after (ticked types ms w).next)
  tick_quiets task types ms own still =
      let t : ServedShape = record task.t { shape = still.0 } in
      let served : slice_get types w.cursor.kind ≡ Some t = ap (slice_get types) own.kind ∙ still.1.served in
      over_quiet (has_timed_out ms w) (with_cursor w (bookmarked_in types w.cursor).next)
      (subst (λ (o : Option ServedShape). IsQuiet current (watching (with_cursor w (bookmarked_as o w.cursor).next))) (sym served)
      (marked_quiet (api_version_of t) t.kind (is_bookmark_due w.cursor) refl))
