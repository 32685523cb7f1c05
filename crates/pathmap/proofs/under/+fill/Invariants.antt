use Rattle.std.proofs.Common.{◌≡◌, ◌++◌}
use Rattle.pathmap.specs.Contents.{over}
use Rattle.pathmap.specs.Maps.{contents_in}
use Rattle.pathmap.specs.Merged.{merged}
use Rattle.pathmap.proofs.under.+fill.Given as goal

-- what is there, with what is left walked side by side, is the whole
abbrev pub invariant-fill_below-loop-name : goal.invariant-fill_below-loop-name
invariant-fill_below-loop-name l =
    contents_in l.all.items ++ merged over (contents_in l.name-iterator.rest.items) (contents_in l.rest) ≡ merged over (contents_in l.fn.mine.items) (contents_in l.theirs)
