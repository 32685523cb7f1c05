-- Watches: where one stands, what it has still to send, and what it sends at its turn (Kubernetes docs, "Kubernetes API Concepts",
-- "Efficient detection of changes", "Semantics for watch").
use Rattle.std.specs.Prelude.{ℕ, zero, suc, ◌-◌, max, nat_lt, Bool, true, false, ◌&&◌, if◌then◌else◌, List, [], ◌∷◌, ◌++◌, length, take, map, Option, Some, None, option_map}
use Rattle.std.specs.FinMap as fin
use Rattle.selector.specs.Requirement.{Requirement}
use Rattle.history.specs.History.{Key, Object, Objects, Change, History, later, state_at, up_to}
use Rattle.history.specs.Seen.{Selection, SeenChange, left_after, reached, seen_among, selected, next_of}
use Rattle.history.specs.View.{View, state_in}
use Rattle.lists.specs.Labels.{selection_of}
use Rattle.watchline.specs.Lines.{added, bookmark_line, error_line, line_of}

-- ---- what it sends from

-- the two numbers, the objects at each revision from the compacted one on, and the changes after it, oldest first
pub record HistoryWindow : Type 0 where
  pub current : ℕ
  pub compacted : ℕ
  pub at : ℕ → Objects
  pub changes : List Change

abbrev pub from_history : History → HistoryWindow
from_history h = record { current = h.current; compacted = h.compacted; at = state_at h.changes; changes = h.changes }

abbrev pub from_view : View → HistoryWindow
from_view v = record { current = v.current; compacted = v.compacted; at = state_in v; changes = v.changes }

-- ---- where it stands

-- of the objects that stood when the watch was opened: none is left to be sent, or those after a namespace and name, or all
pub data InitialLeft : Type 0 where
  no_initial_left : InitialLeft
  initial_left_from : Option (List ℕ × List ℕ) → InitialLeft

pub record Cursor : Type 0 where
  pub kind : ℕ
  pub namespace : Option (List ℕ)
  pub requirements : List Requirement
  -- whether it sends bookmarks
  pub bookmarks : Bool
  -- each change up to it was sent, or isn't seen
  pub position : ℕ
  -- the last revision that the client was sent, 0 before there is one
  pub sent : ℕ
  pub left : InitialLeft

abbrev pub moved : Cursor → ℕ → ℕ → InitialLeft → Cursor
moved w position sent left = record w { position = position; sent = sent; left = left }

abbrev pub with_bookmarks : Cursor → Bool → Cursor
with_bookmarks w bookmarks = record w { bookmarks = bookmarks }

abbrev pub wanted : Cursor → Selection
wanted w = selection_of w.kind w.namespace w.requirements

-- ---- what it has still to send

abbrev pub key_at : ℕ → List ℕ × List ℕ → Key
key_at kind place = record { kind = kind; namespace = place.0; name = place.1 }

abbrev pub entries_left : ℕ → InitialLeft → List (Key × Object) → List (Key × Object)
entries_left kind no_initial_left es = []
entries_left kind (initial_left_from place) es = left_after (option_map (key_at kind) place) es

-- objects that stood at its position
abbrev pub objects_left : HistoryWindow → Cursor → List (Key × Object)
objects_left s w = entries_left w.kind w.left (fin.entries (selected (wanted w) (s.at w.position)))

-- the changes seen after its position, up to now
abbrev pub changes_left : HistoryWindow → Cursor → List SeenChange
changes_left s w = seen_among (wanted w) (s.at w.position) (up_to s.current (later w.position s.changes))

-- objects first, each as added, then changes
abbrev pub coming : HistoryWindow → Cursor → List SeenChange
coming s w = map added (objects_left s w) ++ changes_left s w

-- ---- its turn at a pump: at most so many lines

-- the changes for which there is room behind the objects
abbrev pub changes_sent : HistoryWindow → ℕ → Cursor → List SeenChange
changes_sent s room w = take (room - length (objects_left s w)) (changes_left s w)

-- by the key that the next turn begins after; none: nothing follows
abbrev pub initial_left_by_next : Option Key → InitialLeft
initial_left_by_next None = no_initial_left
initial_left_by_next (Some k) = initial_left_from (Some (k.namespace, k.name))

-- what is left of these after so many
abbrev pub initial_left_after_count : ℕ → List (Key × Object) → InitialLeft → InitialLeft
initial_left_after_count zero es left = left
initial_left_after_count (suc n) es left = initial_left_by_next (next_of (suc n) es)

abbrev pub position_by : Bool → ℕ → ℕ → ℕ
position_by has_room current p = if has_room then max p current else p

-- an object moves it nowhere, a change to its revision; where room is left, nothing else is to be seen up to now
abbrev pub position_past : HistoryWindow → ℕ → Cursor → ℕ
position_past s room w = position_by (nat_lt (length (coming s w)) room) s.current (reached w.position (changes_sent s room w))

-- the lines, whether the watch has ended by them, and where it then stands
pub record Turn : Type 0 where
  pub lines : List (List ℕ)
  pub ended : Bool
  pub next : Cursor

abbrev pub sending : HistoryWindow → ℕ → Cursor → Turn
sending s room w = record {
  lines = map line_of (take room (coming s w));
  ended = false;
  next = moved w (position_past s room w) (reached w.sent (changes_sent s room w)) (initial_left_after_count room (objects_left s w) w.left);
}

-- below the compacted number it can't send what it has missed, and ends with an error
abbrev pub expiring : HistoryWindow → Cursor → Turn
expiring s w = record { lines = error_line w.position s.compacted ∷ []; ended = true; next = w }

abbrev pub pumped : HistoryWindow → ℕ → Cursor → Turn
pumped s room w = if nat_lt w.position s.compacted then expiring s w else sending s room w

-- ---- bookmarks

abbrev pub is_none_left : InitialLeft → Bool
is_none_left no_initial_left = true
is_none_left (initial_left_from place) = false

-- it stands past what the client was sent, and no object is left
abbrev pub is_bookmark_due : Cursor → Bool
is_bookmark_due w = w.bookmarks && (is_none_left w.left && nat_lt w.sent w.position)

-- a bookmark's line, if one is due, and where the watch then stands
pub record BookmarkTurn : Type 0 where
  pub line : Option (List ℕ)
  pub next : Cursor

abbrev pub bookmarked : List ℕ → List ℕ → Cursor → BookmarkTurn
bookmarked api_version kind w =
    if is_bookmark_due w then record { line = Some (bookmark_line api_version kind w.position); next = moved w w.position w.position w.left }
    else record { line = None; next = w }
