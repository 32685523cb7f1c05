use Rattle.std.proofs.Common.{List}
use Rattle.api_types.specs.TypesFile.{ServedShape}
use Rattle.verbs.specs.CachedStateViews.{AreCoherent}
use Rattle.verbs.proofs.slot.empty_slots.Given as goal

abbrev pub invariant-loop : goal.invariant-loop
invariant-loop l = (types : List ServedShape) → AreCoherent types l.slots.items
