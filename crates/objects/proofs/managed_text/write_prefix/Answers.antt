use Rattle.std.proofs.Common.{◌∙◌, codes}
use Rattle.std.proofs.lemmas.Result.{on_ok_weaker}
use Rattle.serde_json.specs.Data.{member, string}
use Rattle.fieldset.specs.FieldsV1.{fields_v1_of}
use Rattle.schema.specs.Shape.{shape}
use Rattle.objects.proofs.Appended.{member_appended}
use Rattle.objects.proofs.managed_text.write_prefix.Goals as goal

pub returns : goal.returns
returns c =
    let d = fields_v1_of (shape c.args.schema.now) c.args.paths.now in
    on_ok_weaker c.write_fields_v1.result (λ value rest. member_appended (codes "fieldsV1") d c.write_string-2.new.out c.name.new.self c.write_fields_v1.new.out c.in_ok-name.ensures value rest
    ∙ c.in_ok-write_string-2.ensures (member (codes "fieldsV1") d rest) ∙ c.in_ok-write_string.ensures (member (codes "fieldsType") (string (codes "FieldsV1")) (member (codes "fieldsV1") d rest))) c.write_fields_v1.ensures
