-- What the crate's values represent.
use Rattle.std.specs.Prelude.{ℕ, List, [], ◌∷◌, map, Option, Some, None, option_map, String, string_bytes}
use Rattle.std.specs.declared.alloc.Global.{Global}
use Rattle.std.specs.FinMap as fin
use Rattle.history.specs.History.{Key, Object}
use Rattle.history.specs.Read.{key_of, object_of}
use Rattle.history.specs.Seen.{SeenKind, SeenChange, selected}
use Rattle.history.specs.Seen as history
use Rattle.history.specs.View.{View, state_in}
use Rattle.lists.specs.Labels.{selection_of}
use Rattle.lists.specs.declared.rows.Start.{Start}
use Rattle.lists.specs.Views.{start_of}
use Rattle.watchline.specs.declared.seen.SeenKind.{SeenKind as TheSeenKind}
use Rattle.watchline.specs.declared.seen.SeenKind.TheVariants as kind
use Rattle.watchline.specs.declared.seen.Seen.{Seen as TheSeen}
use Rattle.watchline.specs.declared.cursor.WatchScope.{WatchScope as TheScope}
use Rattle.watchline.specs.declared.cursor.Progress.{Progress as TheProgress}
use Rattle.watchline.specs.declared.cursor.Pumped.{Pumped as ThePumped}
use Rattle.watchline.specs.Watches.{Cursor, InitialLeft, no_initial_left, initial_left_from, entries_left, Turn, BookmarkTurn}

-- ---- what is seen of a change

abbrev pub kind_seen : TheSeenKind → SeenKind
kind_seen kind.Added = history.Added
kind_seen kind.Modified = history.Modified
kind_seen kind.Deleted = history.Deleted

abbrev pub seen_change_of : TheSeen → SeenChange
seen_change_of s = record { kind = kind_seen s.kind; key = key_of s.key; object = object_of s.object }

-- one, or none
abbrev pub seen_list : Option TheSeen → List SeenChange
seen_list None = []
seen_list (Some s) = seen_change_of s ∷ []

-- ---- watches

abbrev pub initial_left_of : Option Start → InitialLeft
initial_left_of None = no_initial_left
initial_left_of (Some start) = initial_left_from (start_of start)

abbrev pub cursor_of : TheScope → TheProgress → Cursor
cursor_of scope progress = record {
  kind = scope.kind;
  namespace = option_map string_bytes scope.namespace;
  requirements = scope.selector;
  bookmarks = scope.bookmarks;
  position = progress.position;
  sent = progress.sent;
  left = initial_left_of progress.left;
}

abbrev pub lines_in : List (String Global) → List (List ℕ)
lines_in = map string_bytes

abbrev pub turn_of : ThePumped → Cursor → Turn
turn_of p next = record { lines = lines_in p.lines.items; ended = p.ended; next = next }

abbrev pub bookmark_turn : Option (String Global) → Cursor → BookmarkTurn
bookmark_turn line next = record { line = option_map string_bytes line; next = next }

-- ---- for private clauses: a part of the definition

-- the objects of the selection at a position, from a start on
abbrev pub objects_at : View → TheScope → ℕ → Start → List (Key × Object)
objects_at v scope position start =
    entries_left scope.kind (initial_left_of (Some start)) (fin.entries (selected (selection_of scope.kind (option_map string_bytes scope.namespace) scope.selector) (state_in v position)))
