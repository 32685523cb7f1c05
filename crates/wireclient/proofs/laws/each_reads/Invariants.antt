use Rattle.std.proofs.Common.{◌<◌, ℕ, suc, take}
use Rattle.wireclient.specs.Reads.{Checked}
use Rattle.wireclient.specs.Reply.{HeadCheck}
use Rattle.wireclient.proofs.laws.each_reads.Given as goal

abbrev pub invariant-loop-end : goal.invariant-loop-end
invariant-loop-end l = (n : ℕ) → n < l.end → (j : HeadCheck) × Checked (take (suc n) l.bytes) j
