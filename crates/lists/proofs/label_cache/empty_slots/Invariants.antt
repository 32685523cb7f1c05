use Rattle.lists.specs.LabelCache.{AreRight}
use Rattle.lists.proofs.label_cache.empty_slots.Given as goal

abbrev pub invariant-loop : goal.invariant-loop
invariant-loop l = AreRight l.slots.items
