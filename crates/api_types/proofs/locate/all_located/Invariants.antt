use Rattle.serde_json.specs.View.{view}
use Rattle.api_types.specs.FaultPlaces.{Breaks, EndsReading, IsBrokenIn, IsReportedOf}
use Rattle.api_types.proofs.FaultPlaces.{AreMoved, FirstMoved}
use Rattle.api_types.proofs.locate.all_located.Given as goal

abbrev pub invariant-loop-broken : goal.invariant-loop-broken
invariant-loop-broken l =
    AreMoved (IsBrokenIn Breaks (view l.fn.value)) (IsReportedOf Breaks l.fn.number (view l.fn.value)) l.fn.inner.items l.broken-iterator.rest.items l.all.items
    × FirstMoved (IsBrokenIn EndsReading (view l.fn.value)) (IsReportedOf EndsReading l.fn.number (view l.fn.value)) l.fn.inner.items l.broken-iterator.rest.items l.all.items
