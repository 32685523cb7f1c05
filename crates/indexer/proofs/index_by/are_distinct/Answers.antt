use Rattle.std.proofs.Common.{◌∙◌, ◌&&◌, not, sym, ap, map, drop, ◌+◌, string_bytes}
use Rattle.indexer.specs.Names.{are_distinct}
use Rattle.indexer.proofs.Among.{distinct_from}
use Rattle.indexer.proofs.index_by.are_distinct.Goals as goal

pub returns-then-contains : goal.returns-then-contains
returns-then-contains c =
    let names = c.args.names.now in
    let i = c.loop-i.i in
    sym (ap (λ b. not b && are_distinct (map string_bytes (drop (i + 1) names))) c.if-contains.true)
    ∙ sym (distinct_from names i c.index-names-i.result c.contains.result c.loop-i-test.true c.index-names-i.is c.contains.ensures.value) ∙ c.loop-i.invariant

pub loop-i-preserved : goal.loop-i-preserved
loop-i-preserved c =
    let names = c.args.names.now in
    let i = c.loop-i.i in
    sym (ap (λ b. not b && are_distinct (map string_bytes (drop (i + 1) names))) c.if-contains.false)
    ∙ sym (distinct_from names i c.index-names-i.result c.contains.result c.loop-i-test.true c.index-names-i.is c.contains.ensures.value) ∙ c.loop-i.invariant
