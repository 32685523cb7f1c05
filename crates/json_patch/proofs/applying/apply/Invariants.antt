use Rattle.std.proofs.Common.{◌≡◌, map, drop}
use Rattle.serde_json.specs.View.{view}
use Rattle.json_patch.specs.Operations.{applied_all, applied_from}
use Rattle.json_patch.specs.Represented.{operation_of}
use Rattle.json_patch.proofs.applying.apply.Given as goal

abbrev pub invariant-loop-number : goal.invariant-loop-number
invariant-loop-number l = applied_from l.number (map operation_of (drop l.number l.operations)) (view l.whole, l.room) ≡ applied_all (map operation_of l.operations) (view l.fn.target)
