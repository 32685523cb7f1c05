use Rattle.std.proofs.Common.{codes, refl}
use Rattle.std.proofs.lemmas.Result.{on_ok_weaker}
use Rattle.json.specs.Json.{Members, member, no_members}
use Rattle.discovery.specs.OpenApi.{metadata_schema, owners_schema, text_schema, texts_schema}
use Rattle.discovery.proofs.Appended.{members_added, then_added, then_members}
use Rattle.discovery.proofs.type_schema.put_metadata.Goals as goal

pub returns : goal.returns
returns c =
    let properties : Members → Members =
    λ rest. member (codes "annotations") texts_schema (member (codes "labels") texts_schema (member (codes "managedFields") owners_schema
    (member (codes "name") text_schema (member (codes "namespace") text_schema (member (codes "resourceVersion") text_schema rest))))) in
    let w0 = c.args.writer.now in
    let w1 = c.put.new.writer in
    let w2 = c.put_metadata_properties.new.writer in
    let w3 = c.put-2.new.writer in
    let w4 = c.put-3.new.writer in
    let inside = then_members properties no_members w1 w2 w3 c.in_ok-put_metadata_properties.ensures c.in_ok-put-2.ensures in
    on_ok_weaker c.put-3.result
    (λ ended. members_added (member (codes "metadata") metadata_schema) _ w0 w4 (λ rest. refl) (then_added _ _ w0 w1 w4 c.in_ok-put.ensures (then_added _ _ w1 w3 w4 inside ended))) c.put-3.ensures
