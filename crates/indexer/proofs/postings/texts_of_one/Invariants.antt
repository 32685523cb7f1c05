use Rattle.std.proofs.Common.{◌≡◌, ◌++◌, map}
use Rattle.indexer.proofs.Shown.{shown}
use Rattle.indexer.proofs.postings.texts_of_one.Given as goal

abbrev pub invariant-loop-text : goal.invariant-loop-text
invariant-loop-text l = map (λ t. t.now) l.texts.items ++ shown l.text-iterator ≡ shown l.postings.entries
