use Rattle.std.proofs.Common.{codes}
use Rattle.std.proofs.lemmas.Result.{on_ok_weaker}
use Rattle.json.specs.Json.{member}
use Rattle.discovery.specs.OpenApi.{metadata_schema, text_schema}
use Rattle.discovery.proofs.Appended.{members_then}
use Rattle.discovery.proofs.type_schema.put_envelope.Goals as goal

pub returns : goal.returns
returns c =
    let version = member (codes "apiVersion") text_schema in
    let kind = member (codes "kind") text_schema in
    let metadata = member (codes "metadata") metadata_schema in
    let w0 = c.args.writer.now in
    let w1 = c.put_text.new.writer in
    let w2 = c.put_text-2.new.writer in
    let w3 = c.put_metadata.new.writer in
    on_ok_weaker c.put_metadata.result (λ last. members_then version (λ rest. kind (metadata rest)) w0 w1 w3 c.in_ok-put_text.ensures (members_then kind metadata w1 w2 w3 c.in_ok-put_text-2.ensures last)) c.put_metadata.ensures
