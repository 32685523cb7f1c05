use Rattle.std.proofs.Common.{◌≡◌, List, option_map, map, ap, sym, subst, IfOk, IfSome, ◌∙◌}
use Rattle.history.specs.History.{Change, History, later, up_to}
use Rattle.history.specs.Kept.{IsPruned}
use Rattle.history.specs.Page.{changes_within}
use Rattle.history.specs.Read.{change_of}
use Rattle.history.specs.Writes.{written_all}
use Rattle.history.proofs.Seen.{later_up_to}
use Rattle.history.proofs.Writes.{kept_all}
use Rattle.revstore.specs.Waiting.{waiting_in}
use Rattle.revstore.proofs.Behind.{settled, still_waits}
use Rattle.revstore.proofs.batched.BatchedTable.changes.Goals as goal

pub returns-in-Some-clause-ok : goal.returns-in-Some-clause-ok
returns-in-Some-clause-ok c =
    let h : History = written_all c.self.inside.table (waiting_in c.self.inside.window) in
    subst (λ o. IfSome o (λ v. map change_of v.items ≡ changes_within c.args.kind (option_map (λ b. b.now) c.args.namespace) c.args.max (later c.args.after h.changes))) c.in-Some.is
    (c.in_ok-changes.ensures h (kept_all c.self.inside.table (waiting_in c.self.inside.window) c.self.invariant.0 c.self.invariant.1.0).is.rising c.self.invariant.2)
    ∙ ap (λ (x : History). changes_within c.args.kind (option_map (λ b. b.now) c.args.namespace) c.args.max (later c.args.after x.changes)) c.self.view_is

pub invariant_of-self : goal.invariant_of-self
invariant_of-self c =
    still_waits c.self.inside.table c.flush.new.table c.self.inside.window c.flush.new.window c.in_err-flush.ensures.err c.in_err-flush.ensures.waits
    c.self.invariant.0 c.self.invariant.1 (c.flush.ensures.latest _ c.self.invariant.2)

pub invariant_of-self-2 : goal.invariant_of-self-2
invariant_of-self-2 c =
    settled _ c.span.new.self c.flush.new.window (c.span.ensures.same ∙ c.in_ok-flush.ensures.all)
    (kept_all c.self.inside.table (waiting_in c.self.inside.window) c.self.invariant.0 c.self.invariant.1.0) c.in_ok-flush.ensures.none_left (c.flush.ensures.latest _ c.self.invariant.2)

pub returns-clause-ok : goal.returns-clause-ok
returns-clause-ok c =
    let t : History = c.flush.new.table in
    let same : t ≡ c.args.self.now = c.in_ok-flush.ensures.all ∙ c.self.view_is in
    let is : IsPruned t = subst IsPruned (sym c.in_ok-flush.ensures.all) (kept_all c.self.inside.table (waiting_in c.self.inside.window) c.self.invariant.0 c.self.invariant.1.0) in
    subst (λ (cs : List Change). IfOk c.span.result (λ v. map change_of v.items ≡ changes_within c.args.kind (option_map (λ b. b.now) c.args.namespace) c.args.max cs))
    (ap (λ n. up_to n (later c.args.after t.changes)) c.marks-to.ensures.current ∙ later_up_to t c.args.after is.is ∙ ap (λ (h : History). later c.args.after h.changes) same) c.span.ensures.ok
