use Rattle.std.proofs.Common.{◌≡◌, drop, nat_le}
use Rattle.schema.specs.Shape.{fields_in}
use Rattle.schema.specs.Lawful.{fields_depth}
use Rattle.api_types.proofs.lawful.+within.Given as goal

abbrev pub invariant-are_within-loop-inner : goal.invariant-are_within-loop-inner
invariant-are_within-loop-inner l = nat_le (fields_depth (fields_in (drop l.inner-index l.fields))) l.depth ≡ nat_le (fields_depth (fields_in l.fields)) l.depth
