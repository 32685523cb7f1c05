use Rattle.std.proofs.Common.{◌≡◌, ◌++◌, map}
use Rattle.form_urlencoded.specs.Parse.{owned_pairs_left}
use Rattle.params.specs.Query.{pairs_in, pair_in}
use Rattle.params.specs.Views.{pairs_of}
use Rattle.params.proofs.query.pairs_in.Given as goal

abbrev pub invariant-loop-pair : goal.invariant-loop-pair
invariant-loop-pair l = pairs_of l.pairs.items ++ map pair_in (owned_pairs_left l.pair-iterator) ≡ pairs_in l.query
