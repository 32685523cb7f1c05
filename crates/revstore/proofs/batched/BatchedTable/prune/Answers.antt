use Rattle.std.proofs.Common.{◌≡◌, ◌≤◌, ap, sym, subst, IfSome, ◌∙◌}
use Rattle.history.specs.History.{History}
use Rattle.history.specs.Kept.{IsPruned, pruned}
use Rattle.history.specs.Writes.{written_all}
use Rattle.history.proofs.Kept.{pruned_is}
use Rattle.history.proofs.Writes.{kept_all}
use Rattle.revstore.specs.ChangeWindow.{AreLatest}
use Rattle.revstore.specs.Waiting.{waiting_in}
use Rattle.revstore.proofs.Behind.{settled, still_waits}
use Rattle.revstore.proofs.Latest.{pruned_at}
use Rattle.revstore.proofs.batched.BatchedTable.prune.Goals as goal

pub invariant_of-self : goal.invariant_of-self
invariant_of-self c =
    still_waits c.self.inside.table c.flush.new.table c.self.inside.window c.flush.new.window c.in_err-flush.ensures.err c.in_err-flush.ensures.waits
    c.self.invariant.0 c.self.invariant.1 (c.flush.ensures.latest _ c.self.invariant.2)

pub invariant_of-self-in_err-prune : goal.invariant_of-self-in_err-prune
invariant_of-self-in_err-prune c =
    settled _ c.prune.new.self c.flush.new.window (c.in_err-prune.ensures.err ∙ c.in_ok-flush.ensures.all)
    (kept_all c.self.inside.table (waiting_in c.self.inside.window) c.self.invariant.0 c.self.invariant.1.0) c.in_ok-flush.ensures.none_left (c.flush.ensures.latest _ c.self.invariant.2)

pub invariant_of-self-2 : goal.invariant_of-self-2
invariant_of-self-2 c =
    let m : History = c.flush.new.table in
    let is : IsPruned m = subst IsPruned (sym c.in_ok-flush.ensures.all) (kept_all c.self.inside.table (waiting_in c.self.inside.window) c.self.invariant.0 c.self.invariant.1.0) in
    let same : m ≡ c.args.self.now = c.in_ok-flush.ensures.all ∙ c.self.view_is in
    let low : m.compacted ≤ c.args.revision = subst (λ (h : History). h.compacted ≤ c.args.revision) (sym same) c.requires.low in
    let high : c.args.revision ≤ m.current = subst (λ (h : History). c.args.revision ≤ h.current) (sym same) c.requires.high in
    let are : IfSome c.flush.new.window (AreLatest m) = subst (λ (h : History). IfSome c.flush.new.window (AreLatest h)) (sym c.in_ok-flush.ensures.all) (c.flush.ensures.latest _ c.self.invariant.2) in
    settled (pruned c.args.revision m) c.prune.new.self c.once_compacted.result (c.in_ok-prune.ensures.ok ∙ pruned_at m c.args.revision low high) (pruned_is m c.args.revision is.is high)
    (c.once_compacted.ensures.none (ap waiting_in c.replace-window.ensures.value ∙ c.in_ok-flush.ensures.none_left))
    (c.once_compacted.ensures.latest m is.is.rising (subst (λ o. IfSome o (AreLatest m)) (sym c.replace-window.ensures.value) are))

pub returns-clause-ok : goal.returns-clause-ok
returns-clause-ok c =
    let m : History = c.flush.new.table in
    let same : m ≡ c.args.self.now = c.in_ok-flush.ensures.all ∙ c.self.view_is in
    let low : m.compacted ≤ c.args.revision = subst (λ (h : History). h.compacted ≤ c.args.revision) (sym same) c.requires.low in
    let high : c.args.revision ≤ m.current = subst (λ (h : History). c.args.revision ≤ h.current) (sym same) c.requires.high in
    ap (written_all c.prune.new.self) (c.once_compacted.ensures.none (ap waiting_in c.replace-window.ensures.value ∙ c.in_ok-flush.ensures.none_left))
    ∙ c.in_ok-prune.ensures.ok ∙ pruned_at m c.args.revision low high ∙ ap (pruned c.args.revision) same
