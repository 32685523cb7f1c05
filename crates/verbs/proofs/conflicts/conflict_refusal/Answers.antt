use Rattle.std.proofs.Common.{◌∙◌, ap, map}
use Rattle.serde_json.specs.Written.{items_have_float}
use Rattle.ownership.specs.Results.{conflict_of}
use Rattle.verbs.proofs.Causes.{causes_clean}
use Rattle.verbs.proofs.conflicts.conflict_refusal.Goals as goal

pub invariant_of-result : goal.invariant_of-result
invariant_of-result c = record { textual = ap items_have_float c.in_ok-causes.ensures ∙ causes_clean c.args.api_version.now (map conflict_of c.args.conflicts.now) }
