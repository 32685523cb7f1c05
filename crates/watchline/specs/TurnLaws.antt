-- The turns of a watch, one after the other, over what stays the same between them.
use Rattle.std.specs.Prelude.{◌≡◌, ℕ, ◌+◌, ◌<◌, ◌≤◌, List, [], ◌∷◌, ◌++◌}
use Rattle.history.specs.History.{History}
use Rattle.history.specs.Seen.{seen_changes}
use Rattle.watchline.specs.Watches.{Cursor, HistoryWindow, pumped, wanted}

-- the lines of turns that have room for so many each
abbrev pub lines_by : HistoryWindow → List ℕ → Cursor → List (List ℕ)
lines_by s [] w = []
lines_by s (room ∷ rooms) w = (pumped s room w).lines ++ lines_by s rooms (pumped s room w).next

-- where the watch then stands
abbrev pub after_turns : HistoryWindow → List ℕ → Cursor → Cursor
after_turns s [] w = w
after_turns s (room ∷ rooms) w = after_turns s rooms (pumped s room w).next

-- for how many they have room in all
abbrev pub room_of : List ℕ → ℕ
room_of [] = 0
room_of (room ∷ rooms) = room + room_of rooms

-- once the client was sent a revision, no seen change stands between that and the position
pub record SkipsNothing (h : History) (w : Cursor) : Type 0 where
  pub behind : w.sent ≤ w.position
  pub none : 0 < w.sent → seen_changes (wanted w) h.changes w.sent w.position ≡ []
