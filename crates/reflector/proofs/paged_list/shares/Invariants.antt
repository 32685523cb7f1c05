use Rattle.std.proofs.Common.{◌≡◌, map, take}
use Rattle.indexer.specs.Objects.{shared_of}
use Rattle.reflector.proofs.paged_list.shares.Given as goal

abbrev pub invariant-loop-object : goal.invariant-loop-object
invariant-loop-object l = map shared_of l.all.items ≡ map shared_of (take l.object-index l.objects)
