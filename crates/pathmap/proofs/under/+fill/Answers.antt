use Rattle.std.proofs.Common.{ap, ap₂, sym, subst, ◌∙◌}
use Rattle.pathmap.specs.Contents.{gather, over}
use Rattle.pathmap.specs.Levels.{AreChildren}
use Rattle.pathmap.specs.Maps.{contents_in}
use Rattle.pathmap.specs.Merged.{merged}
use Rattle.pathmap.proofs.Levels.{level}
use Rattle.pathmap.proofs.Merging.{gather-merged-over, over_children}
use Rattle.pathmap.proofs.under.+fill.Goals as goal

pub fill-returns : goal.fill-returns
fill-returns t c =
    let ms = contents_in c.mine.inside.below.items in
    let ts = contents_in c.theirs.inside.below.items in
    ap₂ over c.in_ok-held.ensures (ap gather (c.in_ok-below.ensures ∙ ap (λ l. merged over ms (contents_in l)) c.deref.ensures.value) ∙ gather-merged-over ms ts c.mine.invariant c.theirs.invariant)
    ∙ level c.mine.inside.held c.theirs.inside.held ms ts ∙ ap₂ over c.mine.view_is c.theirs.view_is

pub fill-invariant_of-result : goal.fill-invariant_of-result
fill-invariant_of-result t c =
    let ms = contents_in c.mine.inside.below.items in
    let ts = contents_in c.theirs.inside.below.items in
    subst AreChildren (sym (c.in_ok-below.ensures ∙ ap (λ l. merged over ms (contents_in l)) c.deref.ensures.value)) (over_children ms ts c.mine.invariant c.theirs.invariant)
