use Rattle.std.proofs.Common.{◌≡◌, drop}
use Rattle.pathmap.specs.Levels.{IsRising}
use Rattle.pathmap.specs.Maps.{contents_in}
use Rattle.pathmap.specs.Picks.{picked_in}
use Rattle.pathmap.proofs.pick.+picks_none.Given as goal

-- nothing was picked so far, so what is picked of what is left, beside what is left, is the whole
abbrev pub invariant-picks_none_below-loop-name : goal.invariant-picks_none_below-loop-name
invariant-picks_none_below-loop-name l =
    IsRising (contents_in l.mine) → IsRising (contents_in l.theirs) → IsRising (contents_in l.rest)
    × (picked_in l.rule (contents_in l.rest) (contents_in (drop l.name-index l.mine)) ≡ picked_in l.rule (contents_in l.theirs) (contents_in l.mine))
