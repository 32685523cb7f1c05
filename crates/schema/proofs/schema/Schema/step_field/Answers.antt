use Rattle.std.proofs.Common.{cond, None, option_map, sym, ap, ◌∙◌}
use Rattle.schema.specs.Shape.{fields_in, shape_at}
use Rattle.schema.specs.Steps.{step_field, value_of}
use Rattle.schema.proofs.Shapes.{struct_is}
use Rattle.schema.proofs.schema.Schema.step_field.Goals as goal

pub returns-else-is_atomic : goal.returns-else-is_atomic
returns-else-is_atomic c =
    c.field_type_ref.ensures
    ∙ sym (ap (λ s. step_field s c.args.name.now) (struct_is c.args.self.now c.in-Struct.fields c.in-Struct.is_atomic c.deref.result.now c.in-Struct.is c.deref.ensures.value)
    ∙ ap (λ b. cond b None (option_map value_of (shape_at c.args.name.now (fields_in c.deref.result.now)))) c.if-is_atomic.false)
