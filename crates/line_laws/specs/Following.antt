-- A watch that is followed over a history that goes on: turns, bookmarks, writes, compactions.
use Rattle.std.specs.Prelude.{◌≡◌, ◌⊎◌, ℕ, suc, ◌≤◌, List, [], ◌∷◌, ◌++◌, Option}
use Rattle.history.specs.History.{History, Key, compacted_to, last_revision, written}
use Rattle.watchline.specs.Watches.{Cursor, bookmarked, from_history, no_initial_left, pumped}

pub data Event : Type 0 where
  turn : ℕ → Event  -- with room for so many lines
  mark : List ℕ → List ℕ → Event  -- a bookmark, where one is due
  write : Key → Option (List ℕ) → Event
  compaction : ℕ → Event

-- the history as it stands, where the watch stands, and the lines of its turns
pub record Followed : Type 0 where
  pub history : History
  pub cursor : Cursor
  pub lines : List (List ℕ)

abbrev pub opened_at : History → Cursor → Followed
opened_at h w = record { history = h; cursor = w; lines = [] }

-- objects are left to be sent only at a revision that is there; without them it may wait for a revision that is still to come
abbrev pub MayBegin : History → Cursor → Type 0
MayBegin h w = (w.left ≡ no_initial_left) ⊎ (w.position ≤ h.current)

abbrev pub after : Event → Followed → Followed
after (turn room) f = record f { cursor = (pumped (from_history f.history) room f.cursor).next; lines = f.lines ++ (pumped (from_history f.history) room f.cursor).lines }
after (mark api_version kind) f = record f { cursor = (bookmarked api_version kind f.cursor).next }
after (write k body) f = record f { history = written f.history k body }
after (compaction r) f = record f { history = compacted_to r f.history }

-- a turn is of a watch that has missed nothing, a write has a revision left, a compaction goes forwards
abbrev pub IsAllowed : Event → Followed → Type 0
IsAllowed (turn room) f = f.history.compacted ≤ f.cursor.position
IsAllowed (mark api_version kind) f = Unit {0}
IsAllowed (write k body) f = suc f.history.current ≤ last_revision
IsAllowed (compaction r) f = (f.history.compacted ≤ r) × (r ≤ f.history.current)

abbrev pub followed : List Event → Followed → Followed
followed [] f = f
followed (e ∷ es) f = followed es (after e f)

abbrev pub AreAllowed : List Event → Followed → Type 0
AreAllowed [] f = Unit {0}
AreAllowed (e ∷ es) f = IsAllowed e f × AreAllowed es (after e f)
