use Rattle.std.proofs.Common.{◌≡◌, drop, map}
use Rattle.api_types.specs.Served.{served}
use Rattle.api_types.specs.TypesFile.{type_number, number_from}
use Rattle.api_types.proofs.types.Types.find.Given as goal

-- what is found among those that are left is what is found among all
abbrev pub invariant-loop-served : goal.invariant-loop-served
invariant-loop-served l =
    (l.number ≡ l.served-index)
    × (number_from l.number l.group l.version l.plural (map served (drop l.served-index l.self.all.items)) ≡ type_number l.group l.version l.plural (map served l.self.all.items))
