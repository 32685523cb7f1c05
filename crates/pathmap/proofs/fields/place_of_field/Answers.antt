use Rattle.std.proofs.Common.{rules}
use Rattle.std.proofs.lemmas.List.Sorted.{IsPartitionPoint-from_clause}
use Rattle.fieldpath.specs.Elements.{name_text}
use Rattle.pathmap.proofs.Halving.{less, parted, point_is}
use Rattle.pathmap.proofs.fields.place_of_field.Goals as goal

pub returns-clause-count : goal.returns-clause-count
returns-clause-count c = λ rises.
    let f = name_text c.args.name.now in
    let xs = c.args.below.now in
    point_is f xs c.partition_point.result rises c.partition_point.ensures.bound
    (IsPartitionPoint-from_clause (less f) xs c.partition_point.result c.partition_point.ensures.partitioned (parted f xs rises) (λ a r q k. search rules))
