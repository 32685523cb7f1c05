use Rattle.std.proofs.Common.{◌≡◌, map}
use Rattle.std.specs.FinMap.{empty}
use Rattle.std.specs.Vec.Iter.{into_iter_items}
use Rattle.indexer.specs.Kept.{indexed_objects_in, HoldsPostings}
use Rattle.indexer.specs.Objects.{Stored, shared_of}
use Rattle.indexer.specs.PutAll.{put_all}
use Rattle.indexer.proofs.indexer.gather.Given as goal

abbrev pub invariant-loop-object : goal.invariant-loop-object
invariant-loop-object g l =
    let ks = λ (o : Stored). map (λ b. g.I.IndexBy.keys b o) l.indexes in
    record {
      can : (goal.iterator-loop-object g).can_next l.object-iterator;
      finite : (goal.iterator-loop-object g).is_finite l.object-iterator;
      holds : HoldsPostings l.objects l.postings.items;
      emitted : put_all ks (map shared_of (into_iter_items l.object-iterator)) (indexed_objects_in l.objects) ≡ put_all ks (map shared_of l.fn.from.items) empty;
    }
