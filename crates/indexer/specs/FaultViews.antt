-- What is told of an indexer that wasn't made.
use Rattle.std.specs.Prelude.{ℕ, List, codes}
use Rattle.indexer.specs.declared.indexer.IndexerFault.{IndexerFault}
use Rattle.indexer.specs.declared.indexer.IndexerFault.TheVariants.{SameName, Memory}

abbrev pub error_text : IndexerFault → List ℕ
error_text SameName = codes "two indexes have one name"
error_text Memory = codes "out of memory"
