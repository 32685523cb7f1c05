use Rattle.std.proofs.Common.{◌≡◌, map, drop}
use Rattle.api_types.specs.Served.{served}
use Rattle.api_types.specs.TypesFile.{names_differ}
use Rattle.api_types.proofs.served.names_differ.Given as goal

abbrev pub invariant-loop-number : goal.invariant-loop-number
invariant-loop-number l = names_differ (map served (drop l.number l.types)) ≡ names_differ (map served l.types)
