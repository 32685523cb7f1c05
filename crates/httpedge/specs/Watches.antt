-- Watches in the hub (Kubernetes docs, "Kubernetes API Concepts", "Efficient detection of changes"): what one writes at its turn, and how
-- long it lasts. What its lines say, and where it stands in the history, is told by the definitions of watches themselves.
use Rattle.std.specs.Prelude.{ℕ, ◌*◌, ◌-◌, Bool, ◌&&◌, ◌||◌, nat_lt, nat_le, if◌then◌else◌, List, [], ◌∷◌, Option, Some, None}
use Rattle.api_types.specs.TypesFile.{ServedShape}
use Rattle.history.specs.History.{History}
use Rattle.answers.specs.WatchFrom.{WatchFrom}
use Rattle.watchline.specs.Opening.{first_cursor}
use Rattle.watchline.specs.Watches.{Cursor, BookmarkTurn, from_history, is_bookmark_due}
use Rattle.watchline.specs.Watches as cursors
use Rattle.verbs.specs.Watching.{bookmarked_in}

-- where it stands; the last tick before its opening, in milliseconds; the seconds after which it ends, 0 for never
pub record Watch : Type 0 where
  pub cursor : Cursor
  pub opened_at : ℕ
  pub timeout : ℕ

-- one that opens after this tick
abbrev pub begun_at : ℕ → WatchFrom → Watch
begun_at last_tick from = record { cursor = first_cursor from; opened_at = last_tick; timeout = from.timeout }

abbrev pub with_cursor : Watch → Cursor → Watch
with_cursor w cursor = record w { cursor = cursor }

-- the lines that a watch writes at its turn, and where it then stands, unless it has ended
pub record Turn : Type 0 where
  pub lines : List (List ℕ)
  pub next : Option Watch

abbrev pub unless_ended : Bool → Watch → Option Watch
unless_ended has_ended w = if has_ended then None else Some w

-- ---- its turn at a pump, which writes at most so many lines

abbrev pub turned : Watch → cursors.Turn → Turn
turned w t = record { lines = t.lines; next = unless_ended t.ended (with_cursor w t.next) }

abbrev pub pumped : History → ℕ → Watch → Turn
pumped m max w = turned w (cursors.pumped (from_history m) max w.cursor)

-- ---- its turn at a tick, so many milliseconds after the start: a bookmark where one is due, and then the end where its time is over

-- the milliseconds since the last tick before its opening are those of its seconds, or more
abbrev pub has_timed_out : ℕ → Watch → Bool
has_timed_out ms w = nat_lt 0 w.timeout && nat_le (w.timeout * 1000) (ms - w.opened_at)

-- it writes something
abbrev pub is_due : ℕ → Watch → Bool
is_due ms w = is_bookmark_due w.cursor || has_timed_out ms w

abbrev pub line_list : Option (List ℕ) → List (List ℕ)
line_list None = []
line_list (Some line) = line ∷ []

abbrev pub bookmark_turned : ℕ → Watch → BookmarkTurn → Turn
bookmark_turned ms w m = record { lines = line_list m.line; next = unless_ended (has_timed_out ms w) (with_cursor w m.next) }

-- the types name what a bookmark is of
abbrev pub ticked : List ServedShape → ℕ → Watch → Turn
ticked types ms w = bookmark_turned ms w (bookmarked_in types w.cursor)
