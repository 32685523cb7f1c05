-- What waits to be written, behind what a table has: the last changes of the window.
use Rattle.std.specs.Prelude.{ℕ, ◌+◌, ◌≤◌, ◌==◌, ◌&&◌, Bool, List, [], drop, length, map, Option, Some, None, option_map}
use Rattle.std.specs.Rc.{rc_str_bytes}
use Rattle.std.specs.Str.{bytes_eq}
use Rattle.history.specs.History.{History, Key, current_objects, last_revision}
use Rattle.history.specs.Read.{key_of}
use Rattle.history.specs.Whole.{AreThere}
use Rattle.history.specs.Writes.{changes_by}
use Rattle.revstore.specs.declared.window.Latest.{Latest}
use Rattle.revstore.specs.declared.window.ChangeWindow.{ChangeWindow}

-- the write that made a change
abbrev pub write_in : Latest → Key × Option (List ℕ)
write_in l = (key_of l.key.value, option_map rc_str_bytes l.body)

-- those of a window that no table has
abbrev pub waiting_of : ChangeWindow → List (Key × Option (List ℕ))
waiting_of w = map write_in (drop w.written w.latest.items)

abbrev pub waiting_in : Option ChangeWindow → List (Key × Option (List ℕ))
waiting_in None = []
waiting_in (Some w) = waiting_of w

-- they can be written behind this history
abbrev pub CanFollow : History → List (Key × Option (List ℕ)) → Type 0
CanFollow h ws = (h.current + length ws ≤ last_revision) × AreThere (current_objects h) (changes_by h.current ws)

-- whether two keys are the same
abbrev pub is_key : Key → Key → Bool
is_key k q = k.kind == q.kind && (bytes_eq k.namespace q.namespace && bytes_eq k.name q.name)
