use Rattle.std.proofs.Common.{◌≤◌, IfSome, ap, sym, subst, ◌∙◌, arith}
use Rattle.history.specs.History.{History}
use Rattle.history.specs.Kept.{IsPruned}
use Rattle.history.specs.View.{compacted_in, view}
use Rattle.history.proofs.Kept.{pruned_is}
use Rattle.history.proofs.Seen.{view_prunes}
use Rattle.revstore.specs.CachedObject.{AreIn}
use Rattle.revstore.proofs.Latest.{pruned_at}
use Rattle.revstore.proofs.ObjectCache.{still_in}
use Rattle.revstore.proofs.store.Store.compact.Goals as goal

pub invariant_of-self-2 : goal.invariant_of-self-2
invariant_of-self-2 c =
    let h = c.self.inside.table in
    let to = c.args.revision in
    let high : to ≤ h.current = omega (arith, c.if-revision-marks-2.false, c.marks-marks.ensures.current) in
    let gone = sym c.in_ok-prune.ensures.ok in (
      subst IsPruned gone (pruned_is h to c.self.invariant.0.is high),
      subst (λ (t : History). IfSome c.self.inside.cached (AreIn t)) gone (still_in h to c.self.inside.cached c.self.invariant.0.is.rising high c.self.invariant.1),
    )

pub returns-clause-ok : goal.returns-clause-ok
returns-clause-ok c =
    ap view (c.in_ok-prune.ensures.ok
    ∙ sym (pruned_at c.self.inside.table c.args.revision (omega (arith, c.if-revision-marks.false, c.marks-marks.ensures.compacted)) (omega (arith, c.if-revision-marks-2.false, c.marks-marks.ensures.current))))
    ∙ view_prunes c.self.inside.table c.args.revision c.self.invariant.0.is (omega (arith, c.if-revision-marks.false, c.marks-marks.ensures.compacted)) (omega (arith, c.if-revision-marks-2.false, c.marks-marks.ensures.current))
    ∙ ap (compacted_in c.args.revision) c.self.view_is
