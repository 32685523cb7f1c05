use Rattle.std.proofs.Common.{◌≡◌, map, take}
use Rattle.serde_json.specs.View.{view}
use Rattle.ownership.specs.Results.{conflict_of}
use Rattle.verbs.specs.Step.{cause_of}
use Rattle.verbs.proofs.conflicts.causes_of.Given as goal

abbrev pub invariant-loop-conflict : goal.invariant-loop-conflict
invariant-loop-conflict l = map view l.causes.items ≡ map (cause_of l.api_version) (map conflict_of (take l.conflict-index l.conflicts))
