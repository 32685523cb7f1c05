use Rattle.std.proofs.Common.{◌≡◌, ◌-◌, option_map, ap, subst, IfSome, ◌∙◌}
use Rattle.std.specs.FinMap as fin
use Rattle.history.specs.History.{History, state_at}
use Rattle.history.specs.Read.{key_of, object_of}
use Rattle.history.specs.Writes.{written_all}
use Rattle.history.proofs.Writes.{kept_all}
use Rattle.revstore.specs.Shared.{object_in}
use Rattle.revstore.specs.Waiting.{waiting_in}
use Rattle.revstore.proofs.Behind.{settled, still_waits}
use Rattle.revstore.proofs.batched.BatchedTable.latest_before.Goals as goal

pub returns-in-Some-clause-ok : goal.returns-in-Some-clause-ok
returns-in-Some-clause-ok c =
    let h : History = written_all c.self.inside.table (waiting_in c.self.inside.window) in
    subst (λ o. IfSome o (λ x. option_map object_of x ≡ fin.get (state_at h.changes (c.args.revision - 1)) (key_of c.args.key.now))) c.in-Some.is (c.in_ok-before.ensures h c.self.invariant.2)
    ∙ ap (λ (x : History). fin.get (state_at x.changes (c.args.revision - 1)) (key_of c.args.key.now)) c.self.view_is

pub invariant_of-self : goal.invariant_of-self
invariant_of-self c =
    still_waits c.self.inside.table c.flush.new.table c.self.inside.window c.flush.new.window c.in_err-flush.ensures.err c.in_err-flush.ensures.waits
    c.self.invariant.0 c.self.invariant.1 (c.flush.ensures.latest _ c.self.invariant.2)

pub invariant_of-self-in_err-before-2 : goal.invariant_of-self-in_err-before-2
invariant_of-self-in_err-before-2 c =
    settled _ c.shared_at.new.table c.flush.new.window (c.shared_at.ensures.same ∙ c.in_ok-flush.ensures.all)
    (kept_all c.self.inside.table (waiting_in c.self.inside.window) c.self.invariant.0 c.self.invariant.1.0) c.in_ok-flush.ensures.none_left (c.flush.ensures.latest _ c.self.invariant.2)

pub invariant_of-self-in_err-copy : goal.invariant_of-self-in_err-copy
invariant_of-self-in_err-copy c =
    settled _ c.shared_at.new.table c.flush.new.window (c.shared_at.ensures.same ∙ c.in_ok-flush.ensures.all)
    (kept_all c.self.inside.table (waiting_in c.self.inside.window) c.self.invariant.0 c.self.invariant.1.0) c.in_ok-flush.ensures.none_left (c.flush.ensures.latest _ c.self.invariant.2)

pub invariant_of-self-2 : goal.invariant_of-self-2
invariant_of-self-2 c =
    let h : History = written_all c.self.inside.table (waiting_in c.self.inside.window) in
    let is : option_map object_in c.in_ok-before-2.before ≡ fin.get (state_at h.changes (c.args.revision - 1)) (key_of c.args.key.now) =
    c.in_ok-before-2.ensures.ok ∙ ap (λ n. fin.get (state_at c.flush.new.table.changes n) (key_of c.args.key.now)) c.saturating_sub.ensures
    ∙ ap (λ (x : History). fin.get (state_at x.changes (c.args.revision - 1)) (key_of c.args.key.now)) c.in_ok-flush.ensures.all in
    settled h c.shared_at.new.table c.remember_before.new.window (c.shared_at.ensures.same ∙ c.in_ok-flush.ensures.all)
    (kept_all c.self.inside.table (waiting_in c.self.inside.window) c.self.invariant.0 c.self.invariant.1.0) (c.remember_before.ensures.waiting ∙ c.in_ok-flush.ensures.none_left)
    (c.remember_before.ensures.latest h (c.flush.ensures.latest h c.self.invariant.2) is)

pub returns-clause-ok : goal.returns-clause-ok
returns-clause-ok c =
    c.in_ok-copy.ensures
    ∙ c.in_ok-before-2.ensures.ok ∙ ap (λ n. fin.get (state_at c.flush.new.table.changes n) (key_of c.args.key.now)) c.saturating_sub.ensures
    ∙ ap (λ (x : History). fin.get (state_at x.changes (c.args.revision - 1)) (key_of c.args.key.now)) (c.in_ok-flush.ensures.all ∙ c.self.view_is)
