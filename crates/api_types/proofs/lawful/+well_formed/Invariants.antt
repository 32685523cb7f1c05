use Rattle.std.proofs.Common.{◌≡◌, drop}
use Rattle.schema.specs.Shape.{fields_in}
use Rattle.schema.specs.Lawful.{are_well_formed}
use Rattle.api_types.proofs.lawful.+well_formed.Given as goal

abbrev pub invariant-are_well_formed-loop-inner :
    goal.invariant-are_well_formed-loop-inner
invariant-are_well_formed-loop-inner l = are_well_formed (fields_in (drop l.inner-index l.fields)) ≡ are_well_formed (fields_in l.fields)
