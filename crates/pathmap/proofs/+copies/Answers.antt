use Rattle.std.proofs.Common.{◌++◌, ap, ap₂, sym, ◌∙◌, subst}
use Rattle.pathmap.specs.Contents.{gather, over}
use Rattle.pathmap.specs.Levels.{AreChildren}
use Rattle.pathmap.specs.Maps.{contents_in}
use Rattle.pathmap.proofs.+copies.Goals as goal

pub pathmap::PathMap::try_copy-returns : goal.pathmap::PathMap::try_copy-returns
pathmap::PathMap::try_copy-returns t c =
    ap₂ over c.in_ok-held.ensures (ap gather (c.in_ok-push_copies.ensures ∙ ap₂ (λ l m. contents_in l ++ contents_in m) c.in_ok-below.ensures.items c.deref.ensures.value)) ∙ c.self.view_is

pub pathmap::PathMap::try_copy-invariant_of-result : goal.pathmap::PathMap::try_copy-invariant_of-result
pathmap::PathMap::try_copy-invariant_of-result t c =
    subst AreChildren (sym (c.in_ok-push_copies.ensures ∙ ap₂ (λ l m. contents_in l ++ contents_in m) c.in_ok-below.ensures.items c.deref.ensures.value)) c.self.invariant
