use Rattle.std.proofs.Common.{◌≡◌, ◌++◌, drop}
use Rattle.pathmap.specs.Maps.{contents_in}
use Rattle.pathmap.proofs.+copies.Given as goal

-- what is there, with what is left, is the whole
abbrev pub invariant-copying::push_copies-loop-name : goal.invariant-copying::push_copies-loop-name
invariant-copying::push_copies-loop-name l = contents_in l.all.items ++ contents_in (drop l.name-index l.below) ≡ contents_in l.fn.all.items ++ contents_in l.below
