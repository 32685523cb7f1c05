use Rattle.httpedge.specs.declared.effect.Effect.{Effect}
use Rattle.serde_json.specs.View as value
use Rattle.httpedge.proofs.Representing.{same_shared}
use Rattle.httpedge.proofs.Retyped.{file_reported, retypes_not, retypes_well}
use Rattle.httpedge.proofs.hub.Hub.retype.Goals as goal

pub returns-in-Ok-clause-handles : goal.returns-in-Ok-clause-handles
returns-in-Ok-clause-handles c = λ s is. retypes_well s _ c.args.self.now c.retype.new.self is (c.in-Ok.ensures.ok s.types s.machine is.0.machine)

pub returns-in-Err-clause-handles : goal.returns-in-Err-clause-handles
returns-in-Err-clause-handles c =
    retypes_not Effect c.args.self.now _ _ c.in-Err.fault c.from.result c.from.ensures (same_shared c.args.self.now c.retype.new.self c.in-Err.ensures.unchanged)
    (λ s is. c.in-Err.ensures.refused s.types s.machine is.0.machine)

pub returns-in-Err-clause-reported : goal.returns-in-Err-clause-reported
returns-in-Err-clause-reported c = file_reported (value.view c.args.file.now) c.in-Err.fault c.from.result c.from.ensures c.in-Err.ensures.reported
