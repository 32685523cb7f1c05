use Rattle.std.proofs.Common.{[], ◌∷◌, ap, ◌∙◌}
use Rattle.std.proofs.lemmas.Result.{on_ok_weaker}
use Rattle.json.specs.Token.{key}
use Rattle.api_types.specs.ServedViews.{served}
use Rattle.discovery.specs.OpenApi.{object_path, path_item}
use Rattle.discovery.proofs.Appended.{member_added, same_added}
use Rattle.discovery.proofs.operations.put_path.Goals as goal

pub returns : goal.returns
returns c =
    let t = served c.args.one.now in
    let w0 = c.args.writer.now in
    let w1 = c.put.new.writer in
    let named = same_added _ (key (object_path t) ∷ []) w0 w1 (ap (λ s. key s ∷ []) (c.as_str.ensures.value ∙ c.in_ok-path.ensures)) c.in_ok-put.ensures in
    on_ok_weaker c.put_path_item.result (λ told. member_added (object_path t) (path_item t) w0 w1 c.put_path_item.new.writer named told) c.put_path_item.ensures
