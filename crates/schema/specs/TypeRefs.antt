-- The spot that a `TypeRef` stands for.
use Rattle.schema.specs.KeyNames.{names_in}
use Rattle.schema.specs.Shape.{shape, fields_in}
use Rattle.schema.specs.Steps as steps
use Rattle.schema.specs.declared.step.TypeRef.{TypeRef}
use Rattle.schema.specs.declared.step.TypeRef.TheVariants as made

abbrev pub type_ref : TypeRef → steps.TypeRef
type_ref (made.Value schema) = steps.value_of (shape schema.now)
type_ref made.SetItem = steps.set_item
type_ref (made.MapItem fields names) = steps.map_item (names_in names.now) (fields_in fields.now)
