use Rattle.std.proofs.Common.{◌∙◌, ap}
use Rattle.indexer.specs.Objects.{under_number}
use Rattle.indexer.proofs.Rows.{under_got}
use Rattle.indexer.proofs.postings.postings_of.Goals as goal

pub returns-in-Some : goal.returns-in-Some
returns-in-Some c = λ k q.
    under_got c.args.postings.now c.in-Some.i c.get.result k q c.get.ensures.lookup.3
    ∙ ap (λ n. under_number c.args.postings.now n k q) c.in-Some.ensures
