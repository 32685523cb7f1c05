use Rattle.std.proofs.Common.{[], ◌∷◌, ◌++◌, ◌∙◌, codes, refl}
use Rattle.std.proofs.lemmas.Result.{on_ok_weaker}
use Rattle.json.specs.Token.{begin_object, end_object, key, string}
use Rattle.api_types.specs.ServedViews.{served}
use Rattle.discovery.specs.Groups.{group_version}
use Rattle.discovery.specs.OpenApi.{add_reference, open_api_path}
use Rattle.discovery.proofs.Appended.{members_added, same_added}
use Rattle.discovery.proofs.open_api.add_reference.Goals as goal

pub returns : goal.returns
returns c =
    let t = served c.args.one.now in
    let w0 = c.args.writer.now in
    let w1 = c.put_reference.new.writer in
    let name = c.as_str.ensures.value ∙ c.in_ok-name.ensures in
    let path = c.as_str-2.ensures.value ∙ c.in_ok-path.ensures in
    let ts = key (codes "apis/" ++ group_version t) ∷ begin_object ∷ key (codes "serverRelativeURL") ∷ string (open_api_path t) ∷ end_object ∷ [] in
    on_ok_weaker c.put_reference.result
    (λ told. members_added (add_reference t) ts w0 w1 (λ rest. refl)
    (same_added _ ts w0 w1 (λ i. key (name i) ∷ begin_object ∷ key (codes "serverRelativeURL") ∷ string (path i) ∷ end_object ∷ []) told)) c.put_reference.ensures
