use Rattle.std.proofs.Common.{ap}
use Rattle.std.specs.Prelude.{is_some}
use Rattle.std.proofs.lemmas.Map.Keys.{ge_from_not_lt, le_from_not_gt}
use Rattle.httpedge.proofs.Ranging.{not_gt}
use Rattle.httpedge.proofs.ids.Ids.before.Goals as goal

pub returns-clause-last : goal.returns-clause-last
returns-clause-last c =
    let r = c.range.ensures.in_range tt in
    let entry = r.3 _ _ c.in_ok-first.ensures.steps in
    let greatest = r.4 _ _ c.in_ok-first.ensures.steps in
    (entry.1, le_from_not_gt _ _ entry.0.1, λ first last at low. ge_from_not_lt _ _ (greatest first (tt, not_gt first c.args.id low) (ap is_some at)))
