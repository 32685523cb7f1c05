use Rattle.serde_json.specs.View.{view}
use Rattle.std.proofs.Common.{map, option_map, sym, ap, ◌∙◌}
use Rattle.json_patch.specs.Operations.{applied_all}
use Rattle.json_patch.specs.Represented.{operation_of, state_of}
use Rattle.json_patch.proofs.Several.{done, fails}
use Rattle.json_patch.proofs.applying.apply.Goals as goal

pub returns-in_default : goal.returns-in_default
returns-in_default c =
    fails (applied_all (map operation_of c.args.operations.now) (view c.args.target)) c.args.operations.now c.loop-number.number c.index-operations-number.result (view c.loop-number.whole, c.loop-number.room)
    c.loop-number-test.true c.index-operations-number.is c.loop-number.invariant (ap (option_map state_of) (sym c.in_default.is) ∙ c.in_ok-changed.ensures)

pub loop-number-preserved : goal.loop-number-preserved
loop-number-preserved c =
    done (applied_all (map operation_of c.args.operations.now) (view c.args.target)) c.args.operations.now c.loop-number.number c.index-operations-number.result (view c.loop-number.whole, c.loop-number.room)
    c.loop-number-test.true c.index-operations-number.is c.loop-number.invariant (view c.in-Some.changed, c.in-Some.left) (ap (option_map state_of) (sym c.in-Some.is) ∙ c.in_ok-changed.ensures)
