use Rattle.std.proofs.lemmas.List.Elements.{All-map}
use Rattle.schema.specs.ObjectShape.{IsObjectShape}
use Rattle.api_types.specs.Served.{served}
use Rattle.api_types.proofs.ObjectTypes.{all_tested}
use Rattle.api_types.proofs.types.Types.types_are_of_objects.Goals as goal

pub returns : goal.returns
returns c = All-map (λ t. IsObjectShape t.shape) served _ (all_tested c.args.self.now.all.items c.args.self.now.objects)
