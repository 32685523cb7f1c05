use Rattle.std.proofs.Common.{◌≡◌, ◌+◌, length, sym, ap, subst, ◌∙◌, arith}
use Rattle.history.specs.History.{History}
use Rattle.history.specs.Kept.{IsPruned}
use Rattle.history.specs.Writes.{written_all}
use Rattle.history.proofs.Writes.{compacted_all, current_all, kept_all}
use Rattle.revstore.specs.Waiting.{waiting_in}
use Rattle.revstore.proofs.batched.BatchedTable.marks.Goals as goal

pub returns-clause-current : goal.returns-clause-current
returns-clause-current c =
    let t = c.self.inside.table in
    let ws = waiting_in c.self.inside.window in
    let all : (written_all t ws).current ≡ t.current + length ws = current_all t ws in
    let now : (written_all t ws).current ≡ c.args.self.now.current = ap (λ (h : History). h.current) c.self.view_is in
    let first : c.marks-current.result.current ≡ t.current = c.marks-current.ensures.current in
    let more : c.count.result ≡ length ws = c.count.ensures in
    omega (arith, all, now, first, more)

pub returns-clause-compacted : goal.returns-clause-compacted
returns-clause-compacted c = c.marks-current.ensures.compacted ∙ sym (compacted_all c.self.inside.table (waiting_in c.self.inside.window)) ∙ ap (λ (h : History). h.compacted) c.self.view_is

pub returns-clause-sound : goal.returns-clause-sound
returns-clause-sound c = subst IsPruned c.self.view_is (kept_all c.self.inside.table (waiting_in c.self.inside.window) c.self.invariant.0 c.self.invariant.1.0)
