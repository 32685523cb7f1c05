use Rattle.std.proofs.Common.{◌-◌, length, string_bytes, sym, ap, ◌∙◌, arith, rules}
use Rattle.std.proofs.lemmas.List.Sorted.{IsPartitionPoint-from_clause}
use Rattle.pathmap.proofs.Halving.{before, prefix_within, less, parted, point_is}
use Rattle.pathmap.proofs.place.place_of.Goals as goal

pub returns-then-is_before-clause-count : goal.returns-then-is_before-clause-count
returns-then-is_before-clause-count c = λ rises.
    let f = string_bytes c.args.name.now in
    let xs = c.args.below.now in
    let e = c.index-below-count.result in
    let some = c.if-count-eq0.false in
    let most = prefix_within f xs in
    let more = before f xs (length xs - 1) e rises (omega (arith, some)) (ap (less f) (sym c.index-below-count.is) ∙ sym c.is_before.ensures ∙ c.if-is_before.true) in
    omega (arith, more, some, most)

pub returns-clause-count : goal.returns-clause-count
returns-clause-count c = λ rises.
    let f = string_bytes c.args.name.now in
    let xs = c.args.below.now in
    point_is f xs c.partition_point.result rises c.partition_point.ensures.bound
    (IsPartitionPoint-from_clause (less f) xs c.partition_point.result c.partition_point.ensures.partitioned (parted f xs rises) (λ a r q k. search rules))
