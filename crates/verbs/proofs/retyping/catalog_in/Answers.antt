use Rattle.std.proofs.Common.{List, subst, sym}
use Rattle.std.specs.List.{All}
use Rattle.schema.specs.ObjectShape.{IsObjectShape}
use Rattle.api_types.specs.TypesFile.{ServedShape}
use Rattle.verbs.proofs.retyping.catalog_in.Goals as goal

pub returns-in-Ok-clause-shaped : goal.returns-in-Ok-clause-shaped
returns-in-Ok-clause-shaped c = subst (λ (all : List ServedShape). All (λ t. IsObjectShape t.shape) all) (sym c.in-Ok.ensures) c.types_are_of_objects.ensures
