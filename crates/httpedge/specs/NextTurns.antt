-- What gives the watch on a connection its next turn.
use Rattle.std.specs.Prelude.{ℕ, nat_lt, if◌then◌else◌, Option, Some, None, option_and_then}
use Rattle.std.specs.FinMap as fin
use Rattle.watchline.specs.Watches.{is_bookmark_due}
use Rattle.httpedge.specs.Connections.{Phase, waiting, watching, ended, gone}
use Rattle.httpedge.specs.Steps.{Event, State, pumps, ticks}
use Rattle.httpedge.specs.Watches.{Watch}

-- of a watch on the connection of this id, by the current revision and the last tick: while it stands before that revision a pump of as many lines as there are revisions, so that
-- all changes come at once; then, where a bookmark is due, a tick at which the clock stands still
abbrev pub turn_of : ℕ → ℕ → ℕ → Watch → Option Event
turn_of id current last_tick watch =
    if nat_lt watch.cursor.position current then Some (pumps id current)
    else if is_bookmark_due watch.cursor then Some (ticks last_tick)
    else None

-- no other connection has a turn
abbrev pub turn_in : ℕ → ℕ → ℕ → Phase → Option Event
turn_in id current last_tick (watching watch) = turn_of id current last_tick watch
turn_in id current last_tick (waiting bytes) = None
turn_in id current last_tick ended = None
turn_in id current last_tick (gone had_ended) = None

-- the same by the id; an unknown one has none
abbrev pub next_turn : State → ℕ → Option Event
next_turn s id = option_and_then (λ c. turn_in id s.machine.current s.last_tick c.phase) (fin.get s.connections id)
