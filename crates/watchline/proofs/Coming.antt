-- What a watch has still to send: objects by rows, then changes, and its turn.
use Rattle.std.proofs.Common.{◌≡◌, ℕ, zero, suc, ◌-◌, ◌<◌, ◌≤◌, min, Bool, true, false, cond, List, [], ◌∷◌, ◌++◌, length, take, map, refl, sym, ap, ap₂, ◌∙◌, Option, Some, None, option_map, string_bytes, arith, leb-true, leb-false, lt-ltb, le-ltb, ltb-false, eqb-true, true≢false}
use Rattle.std.specs.Prelude.{nat_le, nat_lt, ◌==◌}
use Rattle.std.specs.Option.{unwrap_or}
use Rattle.std.proofs.lemmas.List.{length-map, take-map}
use Rattle.std.specs.FinMap as fin
use Rattle.selector.specs.Requirement.{Requirement, selects}
use Rattle.history.specs.History.{Key, Object, Objects, Change, History, IsHistory, IsRising, changed, up_to}
use Rattle.history.specs.Page.{listed}
use Rattle.history.specs.Seen.{SeenChange, SeenPage, left_after, limited, reached, selected, next_of}
use Rattle.history.specs.View.{IsView, View, state_in, view}
use Rattle.history.proofs.Following.{seen_in_view}
use Rattle.history.proofs.Paging.{wanted_first, wanted_past}
use Rattle.history.proofs.Revisions.{rising_ends, up_to-all}
use Rattle.history.proofs.Views.{view_states}
use Rattle.history.specs.declared.object.Entry.{Entry}
use Rattle.history.specs.Read.{entry_of}
use Rattle.lists.specs.declared.rows.Start.{Start as TheStart}
use Rattle.lists.specs.Labels.{attributes_of, selection_of}
use Rattle.lists.specs.Rows.{Start, matching, place_of}
use Rattle.lists.specs.Views.{start_of}
use Rattle.answers.specs.declared.watch_from.InitialEvents.TheVariants.{NoneSelected, Objects as SomeObjects}
use Rattle.watchline.specs.declared.cursor.WatchScope.{WatchScope}
use Rattle.watchline.specs.Lines.{added, error_line, line_of}
use Rattle.watchline.specs.Opening.{initial_of}
use Rattle.watchline.specs.Views.{initial_left_of, objects_at}
use Rattle.watchline.specs.Watches.{Cursor, InitialLeft, HistoryWindow, Turn, changes_left, changes_sent, coming, entries_left, expiring, from_history, from_view, key_at, initial_left_by_next, initial_left_from, initial_left_after_count, moved, objects_left, position_by, pumped, sending, wanted}
use Rattle.watchline.proofs.Putting.{lt-taken, room-taken, take-behind}

abbrev pub Entries : Type 0
Entries = List (Key × Object)

-- ---- objects

-- the rows that match, from a start on, are what the selection has past its place
pub matched : (kind : ℕ) (namespace : Option (List ℕ)) (requirements : List Requirement) (start : Start) (s : Objects)
    → matching requirements (listed kind namespace start s) ≡ left_after (option_map (key_at kind) start) (fin.entries (selected (selection_of kind namespace requirements) s))
matched kind namespace requirements None s = wanted_first kind namespace (λ k body. selects requirements (attributes_of k body)) s
matched kind namespace requirements (Some place) s = wanted_past namespace (key_at kind place) (λ k body. selects requirements (attributes_of k body)) s

-- past the current number the objects stay
up_to-min : (lo top p : ℕ) (cs : List Change) → IsRising lo cs top → up_to (min p top) cs ≡ up_to p cs
up_to-min lo top p cs rise = go (nat_le p top) refl
  where
    go : (b : Bool) → nat_le p top ≡ b → up_to (min p top) cs ≡ up_to p cs
    go true is =
        let h : p ≤ top = leb-true p top is in
        let same : min p top ≡ p = omega (arith, h) in
        ap (λ r. up_to r cs) same
    go false is =
        let h : top < p = leb-false p top is in
        let same : min p top ≡ top = omega (arith, h) in
        let over : top ≤ p = omega (arith, h) in
        let even : top ≤ top = omega arith in
        ap (λ r. up_to r cs) same ∙ up_to-all lo top top cs even rise ∙ sym (up_to-all lo p top cs over rise)

pub state_min : (v : View) (p : ℕ) → IsView v → state_in v (min p v.current) ≡ state_in v p
state_min v p sound = ap (changed v.base) (up_to-min v.compacted v.current p v.changes sound.rising)

pub min_low : (v : View) (p : ℕ) → IsView v → v.compacted ≤ p → v.compacted ≤ min p v.current
min_low v p sound low = let h : v.compacted ≤ v.current = rising_ends v.compacted v.current v.changes sound.rising in omega (arith, h, low)

pub min_high : (v : View) (p : ℕ) → min p v.current ≤ v.current
min_high v p = omega arith

-- the page of rows at the lesser of the two is of the objects at the position
pub page_at : (v : View) (scope : WatchScope) (position revision max : ℕ) (start : TheStart) (page : SeenPage) → IsView v → revision ≡ min position v.current
    → page ≡ limited (Some max) (matching scope.selector (listed scope.kind (option_map string_bytes scope.namespace) (start_of start) (state_in v revision)))
    → page ≡ limited (Some max) (objects_at v scope position start)
page_at v scope position revision max start page sound at is =
    is ∙ ap (limited (Some max)) (
    matched scope.kind (option_map string_bytes scope.namespace) scope.selector (start_of start) (state_in v revision)
    ∙ ap (λ s. left_after (option_map (key_at scope.kind) (start_of start)) (fin.entries (selected (selection_of scope.kind (option_map string_bytes scope.namespace) scope.selector) s)))
    (ap (state_in v) at ∙ state_min v position sound)
    )

pub left_same : (left : Option TheStart) (next : Option Key) → option_map start_of left ≡ option_map place_of next → initial_left_of left ≡ initial_left_by_next next
left_same None None is = refl
left_same None (Some k) is = absurd cc
left_same (Some start) None is = absurd cc
left_same (Some start) (Some k) is = ap initial_left_from (ap (λ o. unwrap_or o None) is)

-- ---- a turn

same_turn : (w : Cursor) (a b : List (List ℕ)) (p q t u : ℕ) (l m : InitialLeft) → a ≡ b → p ≡ q → t ≡ u → l ≡ m
    → (let turn : Turn = record { lines = a; ended = false; next = moved w p t l } in turn) ≡ record { lines = b; ended = false; next = moved w q u m }
same_turn w a b p q t u l m ab pq tu lm = rw (ab, pq, tu, lm) refl

module _ (s : HistoryWindow) (w : Cursor) (room : ℕ) (objects : Entries) (changes : List SeenChange) (objects_are : objects ≡ take room (objects_left s w))
    (changes_are : changes ≡ take (room - length objects) (changes_left s w)) where
  pub sent_are : changes ≡ changes_sent s room w
  sent_are = changes_are ∙ ap (λ n. take n (changes_left s w)) (ap (λ es. room - length es) objects_are ∙ room-taken room (objects_left s w))

  pub taken_are : map added objects ++ changes ≡ take room (coming s w)
  taken_are =
      ap₂ (λ xs ys. xs ++ ys)
      (ap (map added) objects_are ∙ sym (take-map added room (objects_left s w)))
      (sent_are ∙ ap (λ n. take (room - n) (changes_left s w)) (sym (length-map (objects_left s w) added)))
      ∙ sym (take-behind room (map added (objects_left s w)) (changes_left s w))

  module _ (lines : List (List ℕ)) (lines_are : lines ≡ map line_of (map added objects ++ changes)) where
    all_lines : lines ≡ map line_of (take room (coming s w))
    all_lines = lines_are ∙ ap (map line_of) taken_are

    has_room : nat_lt (length lines) room ≡ nat_lt (length (coming s w)) room
    has_room = ap (λ l. nat_lt (length l) room) all_lines ∙ ap (λ n. nat_lt n room) (length-map (take room (coming s w)) line_of) ∙ lt-taken room (coming s w)

    pub turned : (position sent : ℕ) (left next : InitialLeft) → position ≡ position_by (nat_lt (length lines) room) s.current (reached w.position changes) → sent ≡ reached w.sent changes → left ≡ next
        → (let turn : Turn = record { lines = lines; ended = false; next = moved w position sent left } in turn)
        ≡ record { lines = map line_of (take room (coming s w)); ended = false; next = moved w (position_by (nat_lt (length (coming s w)) room) s.current (reached w.position (changes_sent s room w))) (reached w.sent (changes_sent s room w)) next }
    turned position sent left next position_is sent_is left_is =
        same_turn w lines (map line_of (take room (coming s w))) position (position_by (nat_lt (length (coming s w)) room) s.current (reached w.position (changes_sent s room w)))
        sent (reached w.sent (changes_sent s room w)) left next all_lines
        (position_is ∙ ap₂ (λ b cs. position_by b s.current (reached w.position cs)) has_room sent_are)
        (sent_is ∙ ap (reached w.sent) sent_are) left_is

pub past_some : (room : ℕ) (es : Entries) (left : InitialLeft) → (room ≡ 0 → ⊥) → initial_left_after_count room es left ≡ initial_left_by_next (next_of room es)
past_some zero es left h = absurd (h refl)
past_some (suc n) es left h = refl

-- missed changes end it, and else it sends
pub expired_is : (s : HistoryWindow) (w : Cursor) (room : ℕ) (lines : List (List ℕ)) (ended : Bool) → w.position < s.compacted → lines ≡ error_line w.position s.compacted ∷ [] → ended ≡ true
    → (let turn : Turn = record { lines = lines; ended = ended; next = w } in turn) ≡ pumped s room w
expired_is s w room lines ended below lines_are ended_is = rw (lines_are, ended_is) (sym (ap (λ b. cond b (expiring s w) (sending s room w)) (lt-ltb w.position s.compacted below)))

pub sent_is : (s : HistoryWindow) (w : Cursor) (room : ℕ) (turn : Turn) → s.compacted ≤ w.position → turn ≡ sending s room w → turn ≡ pumped s room w
sent_is s w room turn above is = is ∙ sym (ap (λ b. cond b (expiring s w) (sending s room w)) (le-ltb w.position s.compacted above))

-- ---- what is there at the opening

pub none_stand : (es : Entries) (items : List Entry) → map entry_of items ≡ take 1 es → (length items == 0) ≡ true → NoneSelected ≡ initial_of es
none_stand [] items is none = refl
none_stand (e ∷ es) [] is none = absurd cc
none_stand (e ∷ es) (x ∷ xs) is none = let n : suc (length xs) ≡ 0 = eqb-true (suc (length xs)) 0 none in absurd (omega (arith, n))

pub some_stand : (es : Entries) (items : List Entry) → map entry_of items ≡ take 1 es → (length items == 0) ≡ false → SomeObjects ≡ initial_of es
some_stand [] [] is some = absurd (true≢false some)
some_stand [] (x ∷ xs) is some = absurd cc
some_stand (e ∷ es) items is some = refl

-- ---- the same by a history and by its view

abbrev turn_by : ℕ → Entries → List SeenChange → ℕ → Cursor → Turn
turn_by current objects changes room w = record {
  lines = map line_of (take room (map added objects ++ changes));
  ended = false;
  next = moved w (position_by (nat_lt (length (map added objects ++ changes)) room) current (reached w.position (take (room - length objects) changes)))
      (reached w.sent (take (room - length objects) changes)) (initial_left_after_count room objects w.left);
}

pub by_view : (h : History) (room : ℕ) (w : Cursor) → IsHistory h → pumped (from_view (view h)) room w ≡ pumped (from_history h) room w
by_view h room w is = go (nat_lt w.position h.compacted) refl
  where
    go : (b : Bool) → nat_lt w.position h.compacted ≡ b
        → cond b (expiring (from_view (view h)) w) (sending (from_view (view h)) room w) ≡ cond b (expiring (from_history h) w) (sending (from_history h) room w)
    go true below = refl
    go false above =
        let low : h.compacted ≤ w.position = ltb-false w.position h.compacted above in
        ap₂ (λ objects changes. turn_by h.current objects changes room w)
        (ap (λ s. entries_left w.kind w.left (fin.entries (selected (wanted w) s))) (view_states h w.position is low))
        (seen_in_view (wanted w) h w.position h.current is low)
