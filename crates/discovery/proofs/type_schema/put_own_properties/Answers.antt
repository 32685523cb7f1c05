use Rattle.std.proofs.Common.{OnOk, subst, sym}
use Rattle.json.specs.Tree.{members_tokens}
use Rattle.schema.proofs.Shapes.{struct_is}
use Rattle.discovery.specs.OpenApi.{own_properties}
use Rattle.discovery.specs.Writing.{Adds}
use Rattle.discovery.proofs.type_schema.put_own_properties.Goals as goal

pub returns-in-Struct : goal.returns-in-Struct
returns-in-Struct c =
    subst (λ s. OnOk c.put_fields.result (Adds (members_tokens (own_properties s)) c.args.writer.now c.put_fields.new.writer))
    (sym (struct_is c.args.schema.now c.in-Struct.fields c.in-Struct.field-1 c.deref.result.now c.in-Struct.is c.deref.ensures.value)) c.put_fields.ensures
