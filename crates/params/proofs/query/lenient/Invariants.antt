use Rattle.std.proofs.Common.{◌≡◌, ◌++◌}
use Rattle.params.specs.Lenient.{lenient}
use Rattle.params.specs.Views.{pairs_of}
use Rattle.params.proofs.query.lenient.Given as goal

abbrev pub invariant-loop-pair : goal.invariant-loop-pair
invariant-loop-pair l = pairs_of l.meant.items ++ lenient (pairs_of l.pair-iterator.rest.items) ≡ lenient (pairs_of l.fn.pairs.items)
