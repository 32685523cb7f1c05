use Rattle.std.proofs.Common.{codes}
use Rattle.std.proofs.lemmas.Result.{on_ok_weaker}
use Rattle.json.specs.Json.{member}
use Rattle.discovery.specs.OpenApi.{owners_schema, text_schema, texts_schema}
use Rattle.discovery.proofs.Appended.{members_then}
use Rattle.discovery.proofs.type_schema.put_metadata_properties.Goals as goal

pub returns : goal.returns
returns c =
    let annotations = member (codes "annotations") texts_schema in
    let labels = member (codes "labels") texts_schema in
    let owners = member (codes "managedFields") owners_schema in
    let name = member (codes "name") text_schema in
    let namespace = member (codes "namespace") text_schema in
    let version = member (codes "resourceVersion") text_schema in
    let w0 = c.args.writer.now in
    let w1 = c.put_texts.new.writer in
    let w2 = c.put_texts-2.new.writer in
    let w3 = c.put_owners.new.writer in
    let w4 = c.put_text.new.writer in
    let w5 = c.put_text-2.new.writer in
    let w6 = c.put_text-3.new.writer in
    on_ok_weaker c.put_text-3.result
    (λ last. members_then annotations (λ rest. labels (owners (name (namespace (version rest))))) w0 w1 w6 c.in_ok-put_texts.ensures
    (members_then labels (λ rest. owners (name (namespace (version rest)))) w1 w2 w6 c.in_ok-put_texts-2.ensures
    (members_then owners (λ rest. name (namespace (version rest))) w2 w3 w6 c.in_ok-put_owners.ensures
    (members_then name (λ rest. namespace (version rest)) w3 w4 w6 c.in_ok-put_text.ensures
    (members_then namespace version w4 w5 w6 c.in_ok-put_text-2.ensures last))))) c.put_text-3.ensures
