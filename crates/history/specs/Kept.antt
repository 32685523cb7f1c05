-- What a compaction may forget: all but the kept changes.
use Rattle.std.specs.Prelude.{◌≡◌, ℕ, min, max, Bool, List, filter, ◌&&◌, ◌||◌, not, nat_lt, nat_le, is_some}
use Rattle.std.specs.List.{list_any}
use Rattle.history.specs.History.{History, IsHistory, Change, is_same_key}

-- the second change is of the first's key and came after it, up to c
abbrev pub replaces : ℕ → Change → Change → Bool
replaces c old new = is_same_key old.key new.key && (nat_lt old.revision new.revision && nat_le new.revision c)

-- among these changes it is its key's last up to r, and no deletion
abbrev pub is_last_up_to : ℕ → List Change → Change → Bool
is_last_up_to r cs it = nat_le it.revision r && (is_some it.body && not (list_any (replaces r it) cs))

-- the changes after c and, of each key, the last up to c unless it is a deletion
abbrev pub kept : ℕ → List Change → List Change
kept c cs = filter (λ it. nat_lt c it.revision || is_last_up_to c cs it) cs

-- those that are no deletions
abbrev pub with_body : List Change → List Change
with_body = filter (λ it. is_some it.body)

-- a history of which everything but the kept changes is forgotten
abbrev pub pruned : ℕ → History → History
pruned c h = record { changes = kept c h.changes; current = h.current; compacted = c }

-- a history of which only the kept changes are left
pub record IsPruned (h : History) : Type 0 where
  pub is : IsHistory h
  pub whole : kept h.compacted h.changes ≡ h.changes

-- a revision below the compacted number counts as it, and one past the current number as that
abbrev pub between_marks : History → ℕ → ℕ
between_marks h r = max (min r h.current) h.compacted
