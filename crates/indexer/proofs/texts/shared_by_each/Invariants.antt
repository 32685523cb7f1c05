use Rattle.std.proofs.Common.{◌≡◌, ◌++◌}
use Rattle.indexer.specs.Objects.{kept_of, texts_of}
use Rattle.indexer.proofs.texts.shared_by_each.Given as goal

abbrev pub invariant-loop-texts : goal.invariant-loop-texts
invariant-loop-texts l = kept_of l.all.items ++ texts_of l.texts-iterator.rest.items ≡ texts_of l.fn.keys.items
