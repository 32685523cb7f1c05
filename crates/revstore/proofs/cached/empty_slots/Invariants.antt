use Rattle.revstore.specs.CachedObject.{AreCached}
use Rattle.history.specs.History.{History}
use Rattle.revstore.proofs.cached.empty_slots.Given as goal

-- nothing is held in any
abbrev pub invariant-loop : goal.invariant-loop
invariant-loop l = (h : History) → AreCached h l.slots.items
