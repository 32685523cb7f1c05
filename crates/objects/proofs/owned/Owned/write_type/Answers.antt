use Rattle.std.proofs.Common.{◌∙◌, codes, Some}
use Rattle.std.proofs.lemmas.Result.{on_ok_weaker}
use Rattle.serde_json.specs.Data.{member, string}
use Rattle.schema.specs.Shape.{fields_in}
use Rattle.typed.specs.Between.{fields_between, then_fields}
use Rattle.objects.specs.Views.{identity_of, state_of}
use Rattle.objects.proofs.owned.Owned.write_type.Goals as goal

pub returns : goal.returns
returns c = λ formed content.
    let all = fields_in c.args.fields.now in
    let whole = (state_of c.args.self.now).content in
    let of = identity_of c.args.of in
    on_ok_weaker c.write_between-3.result (λ last rest.
    let below_metadata = then_fields (fields_between (Some (codes "kind")) (Some (codes "metadata")) all) whole rest in
    let from_kind = member (codes "kind") (string of.kind) below_metadata in
    let below_kind = then_fields (fields_between (Some (codes "apiVersion")) (Some (codes "kind")) all) whole from_kind in
    last rest ∙ c.in_ok-write_string-2.ensures below_metadata ∙ c.in_ok-write_between-2.ensures formed content from_kind ∙ c.in_ok-write_string.ensures below_kind
    ∙ c.in_ok-write_between.ensures formed content (member (codes "apiVersion") (string of.api_version) below_kind)) (c.write_between-3.ensures formed content)
