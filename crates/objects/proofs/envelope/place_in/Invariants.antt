use Rattle.std.proofs.Common.{◌≡◌, ◌+◌, drop}
use Rattle.objects.specs.Borrowed.{data_in, place_in}
use Rattle.objects.proofs.envelope.place_in.Given as goal

abbrev pub invariant-loop-known : goal.invariant-loop-known
invariant-loop-known l = (l.place ≡ l.known-index) × (place_in l.name (data_in l.members) ≡ l.place + place_in l.name (data_in (drop l.known-index l.members)))
