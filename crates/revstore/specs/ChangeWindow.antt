-- The latest changes of a history.
use Rattle.std.specs.Prelude.{◌≡◌, ◌-◌, ◌≤◌, IfSome, List, length, map, option_map}
use Rattle.std.specs.List.{All}
use Rattle.std.specs.Rc.{rc_str_bytes}
use Rattle.std.specs.FinMap as fin
use Rattle.history.specs.History.{Change, History, current_objects, later, state_at}
use Rattle.history.specs.Read.{key_of}
use Rattle.revstore.specs.Shared.{object_in}
use Rattle.revstore.specs.declared.window.Latest.{Latest}
use Rattle.revstore.specs.declared.window.ChangeWindow.{ChangeWindow}

abbrev pub change_in : Latest → Change
change_in l = record { revision = l.revision; key = key_of l.key.value; body = option_map rc_str_bytes l.body }

-- the changes alone
abbrev pub changes_in : List Latest → List Change
changes_in = map change_in

-- where it is known what stood under the change's key just before it, that stood there
abbrev pub IsBefore : History → Latest → Type 0
IsBefore h l = IfSome l.before (λ o. option_map object_in o ≡ fin.get (state_at h.changes (l.revision - 1)) (key_of l.key.value))

-- the same of a change that is still to be made
abbrev pub IsBeforeNext : History → Latest → Type 0
IsBeforeNext h l = IfSome l.before (λ o. option_map object_in o ≡ fin.get (current_objects h) (key_of l.key.value))

-- they are all changes of the history after the revision that they begin from, and no more of them are written than there are
pub record AreLatest (h : History) (r : ChangeWindow) : Type 0 where
  pub from : r.from ≤ h.current
  pub changes : changes_in r.latest.items ≡ later r.from h.changes
  pub befores : All (IsBefore h) r.latest.items
  pub written : r.written ≤ length r.latest.items
