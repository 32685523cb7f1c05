use Rattle.api_types.proofs.FaultPlaces.{IsReportedSoFar}
use Rattle.api_types.proofs.locate.places_among.Given as goal

abbrev pub invariant-loop-number : goal.invariant-loop-number
invariant-loop-number l = IsReportedSoFar l.number l.types l.all.items
