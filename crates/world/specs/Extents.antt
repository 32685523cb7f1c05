-- How far connections were before they changed.
use Rattle.std.specs.Prelude.{◌≡◌, ℕ, ◌-◌, Bool, not, ◌&&◌, List, drop, length, map, Option, Some, None, option_map, unwrap_or}
use Rattle.std.specs.BTreeMap.{BTreeMap, get}
use Rattle.std.specs.List.{filter}
use Rattle.std.specs.Ordering.{nat_cmp}
use Rattle.httpedge.specs.Connections.{ended_on, written_on}
use Rattle.httpedge.specs.Effects.{change_in}
use Rattle.httpedge.specs.Steps.{State}
use Rattle.httpedge.specs.declared.effect.Change.{Change}
use Rattle.world.specs.Stepping.{extent_of, is_some_bytes}
use Rattle.world.specs.declared.extents.Extent.{Extent}

abbrev pub extent_seen : Extent → ℕ × Bool
extent_seen m = (m.written, m.ended)

-- what is noted of a connection
abbrev pub noted_on : BTreeMap ℕ Extent → ℕ → Option (ℕ × Bool)
noted_on noted id = option_map extent_seen (get nat_cmp noted id)

-- how far a connection was: as noted before it changed, and else as it is
abbrev pub extent_before : BTreeMap ℕ Extent → State → ℕ → ℕ × Bool
extent_before noted t id = unwrap_or (noted_on noted id) (extent_of t id)

-- the notes tell of each connection how far it was in the state where they were begun
abbrev pub AreNotesSince : State → BTreeMap ℕ Extent → State → Type 0
AreNotesSince s noted t = (id : ℕ) → extent_before noted t id ≡ extent_of s id

-- wherever the notes were begun, they still tell how far each connection was there
abbrev pub NotesFollow : BTreeMap ℕ Extent → State → BTreeMap ℕ Extent → State → Type 0
NotesFollow noted s further t = (begin : State) → AreNotesSince begin noted s → AreNotesSince begin further t

-- ---- words of private clauses

-- the first that there is
abbrev pub first_of : {V : Type 0} → Option V → Option V → Option V
first_of (Some v) o = Some v
first_of None o = o

-- how far a connection was before a change
abbrev pub extent_without : State → ℕ → Change → ℕ × Bool
extent_without t id change = (length (written_on t.connections id) - change.bytes, ended_on t.connections id && not change.has_ended)

-- to the notes came how far the connections of these changes were, where it wasn't noted
abbrev pub AreNoted : State → List (ℕ × Change) → BTreeMap ℕ Extent → BTreeMap ℕ Extent → Type 0
AreNoted t changes old new = (id : ℕ) → noted_on new id ≡ first_of (noted_on old id) (option_map (extent_without t id) (change_in changes id))

-- by these notes, what was written on each connection, where something was
abbrev pub added_by : State → List (ℕ × Extent) → List (ℕ × List ℕ)
added_by t notes = filter is_some_bytes (map (λ e. (e.0, drop e.1.written (written_on t.connections e.0))) notes)

-- by these notes, the connections that ended
abbrev pub ended_by : State → List (ℕ × Extent) → List ℕ
ended_by t notes = map (λ e. e.0) (filter (λ e. ended_on t.connections e.0 && not e.1.ended) notes)
