use Rattle.std.proofs.Common.{[], ◌∷◌, codes}
use Rattle.std.proofs.lemmas.Result.{on_ok_weaker}
use Rattle.json.specs.Token.{begin_object, end_object, key, string}
use Rattle.json.specs.Tree.{json_tokens}
use Rattle.api_types.specs.ServedViews.{served}
use Rattle.discovery.specs.OpenApi.{group_version_kind}
use Rattle.discovery.proofs.Appended.{same_added}
use Rattle.discovery.proofs.operations.put_group_version_kind.Goals as goal

pub returns : goal.returns
returns c =
    on_ok_weaker c.put.result
    (λ told. same_added _ (json_tokens (group_version_kind (served c.args.one.now))) c.args.writer.now c.put.new.writer
    (λ i. begin_object ∷ key (codes "group") ∷ string (c.as_str.ensures.value i) ∷ key (codes "kind") ∷ string (c.as_str-2.ensures.value i) ∷ key (codes "version") ∷ string (c.as_str-3.ensures.value i) ∷ end_object ∷ []) told)
    c.put.ensures
