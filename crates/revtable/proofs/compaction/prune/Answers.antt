use Rattle.std.proofs.Common.{◌≡◌, sym, subst, ◌∙◌}
use Rattle.sqlite.specs.Held.{state}
use Rattle.revtable.specs.Rows.{stored_in, Amid, Keeps}
use Rattle.revtable.specs.Spans.{Stored, pruned_in}
use Rattle.revtable.proofs.Within.{begins, committed, on_err, rolled_back, uncommitted}
use Rattle.revtable.proofs.compaction.prune.Goals as goal

pub returns-in_err-forget-clause-err : goal.returns-in_err-forget-clause-err
returns-in_err-forget-clause-err g c st rising keeps =
    let start = subst (λ h. Amid st st (state g.S.Store h)) (sym c.transaction-deleting.ensures.begun) (begins st (state g.S.Store c.args.base.now) keeps) in
    let end = c.drop-deleting.new.self.0 in
    let same : end ≡ c.base-1.given.0 = sym (c.base-1.given.1 (sym c.transaction-deleting.ensures.same_reference ∙ sym c.forget.ensures.same_reference)) in
    on_err c.from_residual.result _
    (subst (λ h. Keeps st (state g.S.Store h)) same
    (rolled_back (state g.S.Store c.forget.new.deleting.conn.now) (state g.S.Store end) st (c.in_err-forget.ensures.err st st rising start) (c.drop-deleting.ensures.undone (c.requires.clean end))))

pub returns-in_err-commit-clause-err : goal.returns-in_err-commit-clause-err
returns-in_err-commit-clause-err g c st rising keeps =
    let start = subst (λ h. Amid st st (state g.S.Store h)) (sym c.transaction-deleting.ensures.begun) (begins st (state g.S.Store c.args.base.now) keeps) in
    let end = c.commit.new.self.0 in
    let same : end ≡ c.base-2-1.given.0 = sym (c.base-2-1.given.1 (sym c.transaction-deleting.ensures.same_reference ∙ sym c.forget.ensures.same_reference)) in
    on_err c.from_residual-in_err-commit.result _
    (subst (λ h. Keeps st (state g.S.Store h)) same
    (uncommitted (state g.S.Store c.forget.new.deleting.conn.now) (state g.S.Store end) _ st (pruned_in c.args.marks.current c.args.marks.compacted st) (c.in_ok-forget.ensures.ok st st rising start) (c.in_err-commit.ensures.err (c.requires.clean end))))

pub returns-clause-ok : goal.returns-clause-ok
returns-clause-ok g c st rising keeps =
    let start = subst (λ h. Amid st st (state g.S.Store h)) (sym c.transaction-deleting.ensures.begun) (begins st (state g.S.Store c.args.base.now) keeps) in
    let end = c.commit.new.self.0 in
    let next : Stored = pruned_in c.args.marks.current c.args.marks.compacted st in
    let same : end ≡ c.base-2-1.given.0 = sym (c.base-2-1.given.1 (sym c.transaction-deleting.ensures.same_reference ∙ sym c.forget.ensures.same_reference)) in
    subst (λ h. Keeps next (state g.S.Store h) × (stored_in (state g.S.Store h).now ≡ next)) same
    (committed (state g.S.Store c.forget.new.deleting.conn.now) (state g.S.Store end) st next (c.in_ok-forget.ensures.ok st st rising start) (c.in_ok-commit.ensures.ok (c.requires.clean end)).1)
