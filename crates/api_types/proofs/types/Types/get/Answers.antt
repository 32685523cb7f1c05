use Rattle.std.proofs.Common.{sym, subst}
use Rattle.std.specs.List.{All}
use Rattle.schema.specs.ObjectShape.{IsObjectShape}
use Rattle.schema.specs.Shape.{shape}
use Rattle.api_types.specs.declared.served.Served.{Served}
use Rattle.api_types.proofs.ObjectTypes.{all_tested, one_of}
use Rattle.api_types.proofs.types.Types.get.Goals as goal

pub returns-clause-object : goal.returns-clause-object
returns-clause-object c =
    let is_one : Served → Type 0 = λ t. IsObjectShape (shape t.schema) in
    let all = subst (All is_one) (sym c.deref.ensures.value) (all_tested c.args.self.now.all.items c.args.self.now.objects) in
    one_of is_one c.deref.result.now c.args.number c.get.result _ c.get.ensures.lookup.1 c.get.ensures.lookup.3 all
