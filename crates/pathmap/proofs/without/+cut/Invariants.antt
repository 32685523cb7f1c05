use Rattle.std.proofs.Common.{◌≡◌, drop}
use Rattle.pathmap.specs.Cuts.{cut_each}
use Rattle.pathmap.specs.Levels.{IsRising}
use Rattle.pathmap.specs.Maps.{contents_in}
use Rattle.pathmap.proofs.without.+cut.Given as goal

-- what is there, cut by what is left, is the whole
abbrev pub invariant-cut_below-loop-name : goal.invariant-cut_below-loop-name
invariant-cut_below-loop-name l =
    IsRising (contents_in l.fn.below.items) → IsRising (contents_in l.below.items)
    × (cut_each (contents_in (drop l.name-index l.set)) (contents_in l.below.items) ≡ cut_each (contents_in l.set) (contents_in l.fn.below.items))
