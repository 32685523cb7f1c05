-- All that a call may see of a history: the objects at the compacted number, and the changes after it.
use Rattle.std.specs.Prelude.{ℕ, suc, ◌≤◌, List, [], ◌∷◌, ◌++◌, Option}
use Rattle.history.specs.History.{Key, Objects, Change, History, IsRising, changed, last_revision, up_to, later, state_at}

pub record View : Type 0 where
  pub current : ℕ
  pub compacted : ℕ
  pub base : Objects
  pub changes : List Change

abbrev pub view : History → View
view h = record { current = h.current; compacted = h.compacted; base = state_at h.changes h.compacted; changes = later h.compacted h.changes }

-- its changes are after the compacted number, each revision above the last, and none above the current one
pub record IsView (v : View) : Type 0 where
  pub rising : IsRising v.compacted v.changes v.current
  pub high : v.current ≤ last_revision

-- the objects at a revision from the compacted one on
abbrev pub state_in : View → ℕ → Objects
state_in v r = changed v.base (up_to r v.changes)

-- one more change, of the next revision
abbrev pub written_in : View → Key → Option (List ℕ) → View
written_in v k body = record { current = suc v.current; compacted = v.compacted; base = v.base; changes = v.changes ++ record { revision = suc v.current; key = k; body = body } ∷ [] }

-- what a compaction leaves to be seen
abbrev pub compacted_in : ℕ → View → View
compacted_in c v = record { current = v.current; compacted = c; base = state_in v c; changes = later c v.changes }
