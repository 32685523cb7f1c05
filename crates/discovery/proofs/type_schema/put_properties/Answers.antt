use Rattle.std.proofs.Common.{codes}
use Rattle.std.proofs.lemmas.Result.{on_ok_weaker}
use Rattle.json.specs.Json.{Members, member}
use Rattle.schema.specs.Shape.{shape}
use Rattle.discovery.specs.OpenApi.{metadata_schema, own_properties, text_schema}
use Rattle.discovery.proofs.Appended.{then_members}
use Rattle.discovery.proofs.type_schema.put_properties.Goals as goal

pub returns : goal.returns
returns c =
    let envelope : Members → Members = λ rest. member (codes "apiVersion") text_schema (member (codes "kind") text_schema (member (codes "metadata") metadata_schema rest)) in
    on_ok_weaker c.put_own_properties.result
    (λ own. then_members envelope (own_properties (shape c.args.schema.now)) c.args.writer.now c.put_envelope.new.writer c.put_own_properties.new.writer c.in_ok-put_envelope.ensures own) c.put_own_properties.ensures
