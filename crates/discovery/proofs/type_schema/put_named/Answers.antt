use Rattle.std.proofs.Common.{[], ◌∷◌, ap, ◌∙◌}
use Rattle.std.proofs.lemmas.Result.{on_ok_weaker}
use Rattle.json.specs.Token.{key}
use Rattle.api_types.specs.ServedViews.{served}
use Rattle.discovery.specs.OpenApi.{schema_name, type_schema}
use Rattle.discovery.proofs.Appended.{member_added, same_added}
use Rattle.discovery.proofs.type_schema.put_named.Goals as goal

pub returns : goal.returns
returns c =
    let t = served c.args.one.now in
    let w0 = c.args.writer.now in
    let w1 = c.put.new.writer in
    let named = same_added _ (key (schema_name t) ∷ []) w0 w1 (ap (λ s. key s ∷ []) (c.as_str.ensures.value ∙ c.in_ok-name.ensures)) c.in_ok-put.ensures in
    on_ok_weaker c.put_type_schema.result (λ told. member_added (schema_name t) (type_schema t) w0 w1 c.put_type_schema.new.writer named told) c.put_type_schema.ensures
