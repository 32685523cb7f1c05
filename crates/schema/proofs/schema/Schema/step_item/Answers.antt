use Rattle.std.proofs.Common.{◌≡◌, cond, false, None, Some, sym, ap, ◌∙◌}
use Rattle.schema.specs.KeyNames.{names_in}
use Rattle.schema.specs.Place.{fit_keys}
use Rattle.schema.specs.Shape.{fields_in}
use Rattle.schema.specs.Steps.{map_item, step_item}
use Rattle.schema.proofs.Shapes.{struct_is}
use Rattle.schema.proofs.schema.Schema.step_item.Goals as goal

pub returns-else-fit_keys : goal.returns-else-fit_keys
returns-else-fit_keys c =
    let names = names_in c.args.names.now in
    let all = fields_in c.deref.result.now in
    let apart : fit_keys names all c.args.keys.now ≡ false = sym c.fit_keys.ensures ∙ c.if-fit_keys.false in
    sym (ap (λ s. step_item names s c.args.keys.now) (struct_is c.args.self.now c.in-Struct.fields c.in-Struct.field-1 c.deref.result.now c.in-Struct.is c.deref.ensures.value)
    ∙ ap (λ b. cond b (Some (map_item names all)) None) apart)
