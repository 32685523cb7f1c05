use Rattle.std.proofs.Common.{◌∙◌, ap₂}
use Rattle.params.specs.Views.{values_of}
use Rattle.history.proofs.Revisions.{rising_ends}
use Rattle.lists.specs.Revision.{revision_of}
use Rattle.lists.proofs.Bounds.{revision_between}
use Rattle.lists.proofs.listing.list.Goals as goal

pub page_of-requires-clause-low : goal.page_of-requires-clause-low
page_of-requires-clause-low c =
    let v = c.args.store.now in
    (revision_between v.current v.compacted (rising_ends v.compacted v.current v.changes c.current.ensures.sound.rising) (values_of c.args.params.now) c.in_ok-revision.revision
    (c.in_ok-revision.ensures ∙ ap₂ (λ a b. revision_of a b (values_of c.args.params.now)) c.current.ensures.current c.compacted.ensures)).0

pub page_of-requires-clause-high : goal.page_of-requires-clause-high
page_of-requires-clause-high c =
    let v = c.args.store.now in
    (revision_between v.current v.compacted (rising_ends v.compacted v.current v.changes c.current.ensures.sound.rising) (values_of c.args.params.now) c.in_ok-revision.revision
    (c.in_ok-revision.ensures ∙ ap₂ (λ a b. revision_of a b (values_of c.args.params.now)) c.current.ensures.current c.compacted.ensures)).1
