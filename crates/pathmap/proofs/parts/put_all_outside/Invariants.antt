use Rattle.std.proofs.Common.{◌≡◌, drop}
use Rattle.pathmap.specs.Contents.{gather, over}
use Rattle.pathmap.specs.Levels.{IsRising}
use Rattle.pathmap.specs.Maps.{contents_in}
use Rattle.pathmap.specs.Parted.{AreFree, children_outside}
use Rattle.pathmap.proofs.parts.put_all_outside.Given as goal

-- nothing stands where those are put that are left; what is there, with these, is the whole
abbrev pub invariant-loop-child : goal.invariant-loop-child
invariant-loop-child l =
    IsRising (contents_in l.children) → AreFree l.part l.name l.fn.map (contents_in l.children)
    → AreFree l.part l.name l.map (contents_in (drop l.child-index l.children))
    × (over l.map (gather (children_outside l.part l.name (contents_in (drop l.child-index l.children)))) ≡ over l.fn.map (gather (children_outside l.part l.name (contents_in l.children))))
