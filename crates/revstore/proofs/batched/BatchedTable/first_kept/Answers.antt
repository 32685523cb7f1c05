use Rattle.std.proofs.Common.{◌∙◌}
use Rattle.history.proofs.Writes.{kept_all}
use Rattle.revstore.specs.Waiting.{waiting_in}
use Rattle.revstore.proofs.Behind.{settled, still_waits}
use Rattle.revstore.proofs.batched.BatchedTable.first_kept.Goals as goal

pub invariant_of-self : goal.invariant_of-self
invariant_of-self g c =
    still_waits c.self.inside.table c.flush.new.table c.self.inside.window c.flush.new.window c.in_err-flush.ensures.err c.in_err-flush.ensures.waits
    c.self.invariant.0 c.self.invariant.1 (c.flush.ensures.latest _ c.self.invariant.2)

pub invariant_of-self-2 : goal.invariant_of-self-2
invariant_of-self-2 g c =
    settled _ c.first_kept.new.self c.flush.new.window (c.first_kept.ensures.same ∙ c.in_ok-flush.ensures.all)
    (kept_all c.self.inside.table (waiting_in c.self.inside.window) c.self.invariant.0 c.self.invariant.1.0) c.in_ok-flush.ensures.none_left (c.flush.ensures.latest _ c.self.invariant.2)
