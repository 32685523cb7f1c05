use Rattle.std.proofs.Common.{◌≡◌, map, take}
use Rattle.indexer.specs.Objects.{shared_of}
use Rattle.world.proofs.reporting.shares.Given as goal

abbrev pub invariant-loop-pair : goal.invariant-loop-pair
invariant-loop-pair l = map shared_of l.all.items ≡ map (λ e. shared_of e.1.now) (take l.pair-index l.pairs)
