use Rattle.std.proofs.Common.{◌≡◌, length}
use Rattle.std.specs.Iterator.Adapters.{zip_first, zip_second}
use Rattle.std.specs.Slice.Iter.{iter_rest}
use Rattle.objects.specs.Managers.{pairs}
use Rattle.ownership.specs.Sameness.{same_entries}
use Rattle.ownership.proofs.same.are_same_entries.Given as goal

-- what is left decides, and is of one length
abbrev pub invariant-loop-one : goal.invariant-loop-one
invariant-loop-one l =
    (same_entries (pairs (iter_rest (zip_first l.one-iterator))) (pairs (iter_rest (zip_second l.one-iterator))) ≡ same_entries (pairs l.mine) (pairs l.theirs))
    × (length (iter_rest (zip_first l.one-iterator)) ≡ length (iter_rest (zip_second l.one-iterator)))
