use Rattle.std.proofs.Common.{◌≡◌, ℕ, ◌+◌, Some}
use Rattle.serde_json.specs.Data.{Data, Members, object}
use Rattle.api_types.specs.FaultPlaces.{Breaks, EndsReading, IsBroken, behind}
use Rattle.api_types.proofs.FaultPlaces.{AreMoved, FirstMoved}
use Rattle.api_types.proofs.locate.all_behind.Given as goal

abbrev pub invariant-loop-broken : goal.invariant-loop-broken
invariant-loop-broken l =
    (depth : ℕ) (ms : Members) (d : Data) → behind l.step ms ≡ Some d
    → AreMoved (IsBroken Breaks (depth + 1) d) (IsBroken Breaks depth (object ms)) l.fn.inner.items l.broken-iterator.rest.items l.all.items
    × FirstMoved (IsBroken EndsReading (depth + 1) d) (IsBroken EndsReading depth (object ms)) l.fn.inner.items l.broken-iterator.rest.items l.all.items
