use Rattle.std.proofs.lemmas.Result.{on_ok_weaker}
use Rattle.schema.specs.Shape.{shape}
use Rattle.discovery.specs.OpenApi.{schema_of}
use Rattle.discovery.proofs.Appended.{member_added}
use Rattle.discovery.proofs.type_schema.put_field.Goals as goal

pub returns : goal.returns
returns c =
    on_ok_weaker c.put_schema.result
    (λ told. member_added c.args.name.now (schema_of (shape c.args.inner.now)) c.args.writer.now c.put.new.writer c.put_schema.new.writer c.in_ok-put.ensures told) c.put_schema.ensures
