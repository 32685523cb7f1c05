use Rattle.std.proofs.Common.{rules, tests, ◌∙◌, string_bytes}
use Rattle.std.specs.Str.{bytes_eq}
use Rattle.std.proofs.lemmas.Iterator.{YieldsList-from_slice}
use Rattle.std.proofs.lemmas.Iterator.Search.{position_from_yields_List}
use Rattle.indexer.proofs.Among.{position-map}
use Rattle.indexer.proofs.postings.number_of.Goals as goal

pub returns : goal.returns
returns c =
    position_from_yields_List (λ n. bytes_eq (string_bytes n) c.args.name.now) _ _ c.position.result c.position.ensures.ran (YieldsList-from_slice c.args.names.now c.iter.ensures.rest) (λ x b q k. search (rules, tests))
    ∙ position-map string_bytes (λ n. bytes_eq n c.args.name.now) c.args.names.now
