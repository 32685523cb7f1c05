use Rattle.std.proofs.Common.{◌≡◌, ◌-◌, map, drop}
use Rattle.std.specs.FinMap as fin
use Rattle.indexer.specs.Objects.{place_cmp, shared_of}
use Rattle.reflector.specs.Client.{by_place}
use Rattle.reflector.proofs.paged_list.ascends.Given as goal

abbrev pub invariant-loop-i : goal.invariant-loop-i
invariant-loop-i l = fin.is_sorted place_cmp (by_place (map shared_of l.objects)) ≡ fin.is_sorted place_cmp (by_place (map shared_of (drop (l.i - 1) l.objects)))
