use Rattle.std.proofs.Common.{◌∙◌, ap, map}
use Rattle.std.proofs.lemmas.List.{take_all}
use Rattle.serde_json.specs.View.{items_of, view}
use Rattle.ownership.specs.Results.{conflict_of}
use Rattle.verbs.specs.Step.{cause_of}
use Rattle.verbs.proofs.Causes.{causes_map, one_cause}
use Rattle.verbs.proofs.conflicts.causes_of.Goals as goal

pub returns : goal.returns
returns c =
    let a = c.args.api_version.now in
    let cs = c.args.conflicts.now in
    ap items_of (c.loop-conflict.invariant ∙ ap (λ l. map (cause_of a) (map conflict_of l)) (take_all c.loop-conflict.conflict-index cs c.loop-conflict-test.false)) ∙ causes_map a (map conflict_of cs)

pub loop-conflict-preserved : goal.loop-conflict-preserved
loop-conflict-preserved c =
    ap (map view) c.in_ok-push.ensures.items
    ∙ one_cause c.args.api_version.now c.args.conflicts.now c.loop-conflict.conflict-index c.conflict-item.result c.loop-conflict.causes.items c.in_ok-cause_of.field-0 c.loop-conflict-test.true c.conflict-item.is
    c.loop-conflict.invariant c.in_ok-cause_of.ensures
