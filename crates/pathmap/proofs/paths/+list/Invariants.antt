use Rattle.std.proofs.Common.{◌≡◌, ◌++◌, drop}
use Rattle.pathmap.specs.Levels.{IsRising}
use Rattle.pathmap.specs.Maps.{contents_in}
use Rattle.pathmap.proofs.Listing.{after_prefix, paths_below}
use Rattle.pathmap.proofs.paths.+list.Given as goal

-- what is listed, with what is left, is the whole
abbrev pub invariant-list_below-loop-name : goal.invariant-list_below-loop-name
invariant-list_below-loop-name l =
    IsRising (contents_in l.below) → (l.all.items ++ after_prefix l.prefix (paths_below (contents_in (drop l.name-index l.below))) ≡ l.fn.all.items ++ after_prefix l.prefix (paths_below (contents_in l.below)))
