use Rattle.std.proofs.Common.{◌∙◌, sym, ap, ◌&&◌}
use Rattle.schema.specs.Shape.{fields_in}
use Rattle.fieldpath.specs.Scalars.{ascend}
use Rattle.schema.specs.Lawful.{are_well_formed, names_of}
use Rattle.schema.proofs.Shapes.{shape-Struct}
use Rattle.api_types.proofs.lawful.+well_formed.Goals as goal

pub is_well_formed-returns-then-fields_ascend :
    goal.is_well_formed-returns-then-fields_ascend
is_well_formed-returns-then-fields_ascend t c =
    rw (c.in-Struct.is, shape-Struct c.in-Struct.fields c.in-Struct.field-1)
    (c.are_well_formed.ensures ∙ ap (λ fs. are_well_formed (fields_in fs)) c.deref-then-fields_ascend.ensures.value
    ∙ ap (λ b. b && are_well_formed (fields_in c.in-Struct.fields.items))
    (sym c.if-fields_ascend.true ∙ c.fields_ascend.ensures ∙ ap (λ fs. ascend (names_of (fields_in fs))) c.deref.ensures.value))

pub is_well_formed-returns-else-fields_ascend :
    goal.is_well_formed-returns-else-fields_ascend
is_well_formed-returns-else-fields_ascend t c =
    rw (c.in-Struct.is, shape-Struct c.in-Struct.fields c.in-Struct.field-1)
    (c.if-fields_ascend.false
    ∙ ap (λ b. b && are_well_formed (fields_in c.in-Struct.fields.items))
    (sym c.if-fields_ascend.false ∙ c.fields_ascend.ensures ∙ ap (λ fs. ascend (names_of (fields_in fs))) c.deref.ensures.value))
