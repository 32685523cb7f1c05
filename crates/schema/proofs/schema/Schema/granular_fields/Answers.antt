use Rattle.std.proofs.Common.{◌∙◌, ap, false, sym}
use Rattle.schema.specs.Shape.{fields_in, shape, struct_of}
use Rattle.schema.proofs.Shapes.{shape-Struct}
use Rattle.schema.proofs.schema.Schema.granular_fields.Goals as goal

pub returns-else-is_atomic-clause-there : goal.returns-else-is_atomic-clause-there
returns-else-is_atomic-clause-there c =
    ap shape c.in-Struct.is ∙ shape-Struct c.in-Struct.fields c.in-Struct.is_atomic ∙ ap (struct_of (fields_in c.in-Struct.fields.items)) c.if-is_atomic.false
    ∙ ap (λ fs. struct_of (fields_in fs) false) (sym c.as_slice.ensures.value)
