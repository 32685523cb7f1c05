use Rattle.std.proofs.Common.{[], ◌∷◌, ap, sym, ◌∙◌, append_assoc, codes, map}
use Rattle.std.proofs.lemmas.Result.{on_ok_weaker}
use Rattle.json.specs.Token.{begin_object, end_object, key}
use Rattle.json.specs.Tree.{members_tokens}
use Rattle.api_types.specs.ServedViews.{served}
use Rattle.discovery.specs.Documents.{members_by}
use Rattle.discovery.specs.Groups.{firsts}
use Rattle.discovery.specs.OpenApi.{add_schema, components}
use Rattle.discovery.specs.declared.likeness.Likeness.TheVariants.{Kind}
use Rattle.discovery.proofs.Appended.{same_added, then_added}
use Rattle.discovery.proofs.open_api.put_components.Goals as goal

pub returns : goal.returns
returns c =
    let types = map served c.args.types.now in
    let t = served c.args.of.now in
    let w0 = c.args.writer.now in
    let w1 = c.put.new.writer in
    let w2 = c.put_schemas.new.writer in
    let w3 = c.put-2.new.writer in
    let all = members_tokens (members_by (add_schema t) (firsts Kind types)) in
    let told =
    same_added _ all w1 w2 (ap (λ ts. members_tokens (members_by (add_schema t) ts)) (ap (λ vs. map (λ u. served u.now) vs) c.deref.ensures.value ∙ c.in_ok-kinds.ensures)) c.in_ok-put_schemas.ensures in
    let same = ap (λ ts. key (codes "components") ∷ begin_object ∷ key (codes "schemas") ∷ begin_object ∷ ts) (sym (append_assoc all (end_object ∷ []) (end_object ∷ []))) in
    on_ok_weaker c.put-2.result
    (λ ended. same_added _ (members_tokens (components types t)) w0 w3 same (then_added _ _ w0 w1 w3 c.in_ok-put.ensures (then_added _ _ w1 w2 w3 told ended))) c.put-2.ensures
