use Rattle.std.proofs.Common.{◌≡◌, ◌∙◌, ◌≤◌, ℕ, min, arith, rules}
use Rattle.scripts.proofs.over_loopback.carried.Goals as goal

-- a chunk is 4096 bytes, or the last
at_most : (size count left : ℕ) → count ≡ min size left → size ≡ 4096 → count ≤ 4096
at_most size count left is whole = omega arith

pub loop-bytes-init : goal.loop-bytes-init
loop-bytes-init g c = (search rules, tt, search rules)

pub loop-bytes-preserved : goal.loop-bytes-preserved
loop-bytes-preserved g c = (search rules, tt, c.in-Some.ensures.steps.0 ∙ c.loop-bytes.invariant.2)

pub pass-requires : goal.pass-requires
pass-requires g c = at_most _ _ _ c.in-Some.ensures.steps.1.1 c.loop-bytes.invariant.2
