use Rattle.std.proofs.Common.{◌≡◌, sym, subst, ◌∙◌, map}
use Rattle.sqlite.specs.Held.{state}
use Rattle.history.specs.Read.{write_of}
use Rattle.history.specs.Writes.{written_all}
use Rattle.revtable.specs.Rows.{stored_in, Amid, Keeps}
use Rattle.revtable.specs.Spans.{Stored, stored_of}
use Rattle.revtable.proofs.Within.{begins, committed, on_err, rolled_back, uncommitted}
use Rattle.revtable.proofs.writing.put_all.Goals as goal

pub returns-in_err-write_changes-clause-err : goal.returns-in_err-write_changes-clause-err
returns-in_err-write_changes-clause-err g c h rising now low keeps =
    let st = stored_of h in
    let start = subst (λ s. Amid st st (state g.S.Store s)) (sym c.transaction-writing.ensures.begun) (begins st (state g.S.Store c.args.base.now) keeps) in
    let end = c.drop-writing.new.self.0 in
    let same : end ≡ c.base-1.given.0 = sym (c.base-1.given.1 (sym c.transaction-writing.ensures.same_reference ∙ sym c.write_changes.ensures.same_reference)) in
    on_err c.from_residual.result _
    (subst (λ s. Keeps st (state g.S.Store s)) same
    (rolled_back (state g.S.Store c.write_changes.new.writing.conn.now) (state g.S.Store end) st (c.in_err-write_changes.ensures.err st h rising now low start) (c.drop-writing.ensures.undone (c.requires.clean end))))

pub returns-in_err-commit-clause-err : goal.returns-in_err-commit-clause-err
returns-in_err-commit-clause-err g c h rising now low keeps =
    let st = stored_of h in
    let start = subst (λ s. Amid st st (state g.S.Store s)) (sym c.transaction-writing.ensures.begun) (begins st (state g.S.Store c.args.base.now) keeps) in
    let end = c.commit.new.self.0 in
    let same : end ≡ c.base-2-1.given.0 = sym (c.base-2-1.given.1 (sym c.transaction-writing.ensures.same_reference ∙ sym c.write_changes.ensures.same_reference)) in
    on_err c.from_residual-in_err-commit.result _
    (subst (λ s. Keeps st (state g.S.Store s)) same
    (uncommitted (state g.S.Store c.write_changes.new.writing.conn.now) (state g.S.Store end) _ st (stored_of (written_all h (map write_of c.args.writes.now))) (c.in_ok-write_changes.ensures.ok st h rising now low start) (c.in_err-commit.ensures.err (c.requires.clean end))))

pub returns-clause-ok : goal.returns-clause-ok
returns-clause-ok g c h rising now low keeps =
    let st = stored_of h in
    let start = subst (λ s. Amid st st (state g.S.Store s)) (sym c.transaction-writing.ensures.begun) (begins st (state g.S.Store c.args.base.now) keeps) in
    let end = c.commit.new.self.0 in
    let next : Stored = stored_of (written_all h (map write_of c.args.writes.now)) in
    let same : end ≡ c.base-2-1.given.0 = sym (c.base-2-1.given.1 (sym c.transaction-writing.ensures.same_reference ∙ sym c.write_changes.ensures.same_reference)) in
    subst (λ s. Keeps next (state g.S.Store s) × (stored_in (state g.S.Store s).now ≡ next)) same
    (committed (state g.S.Store c.write_changes.new.writing.conn.now) (state g.S.Store end) st next (c.in_ok-write_changes.ensures.ok st h rising now low start) (c.in_ok-commit.ensures.ok (c.requires.clean end)).1)
