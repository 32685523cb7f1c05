use Rattle.std.proofs.Common.{ap, ◌∙◌, map}
use Rattle.std.proofs.lemmas.Result.{on_ok_weaker}
use Rattle.json.specs.Tree.{items_tokens}
use Rattle.api_types.specs.ServedViews.{served}
use Rattle.discovery.specs.Documents.{add_group, items_by}
use Rattle.discovery.specs.Groups.{firsts}
use Rattle.discovery.specs.declared.likeness.Likeness.TheVariants.{Group}
use Rattle.discovery.proofs.Appended.{same_added, then_added}
use Rattle.discovery.proofs.groups.put_group_list.Goals as goal

pub returns : goal.returns
returns c =
    let types = map served c.args.types.now in
    let w0 = c.args.writer.now in
    let w1 = c.put.new.writer in
    let w2 = c.put_groups.new.writer in
    let w3 = c.put-2.new.writer in
    let told =
    same_added _ (items_tokens (items_by (add_group types) (firsts Group types))) w1 w2 (ap (λ ts. items_tokens (items_by (add_group types) ts)) (ap (λ vs. map (λ u. served u.now) vs) c.deref.ensures.value ∙ c.in_ok-groups.ensures))
    c.in_ok-put_groups.ensures in
    on_ok_weaker c.put-2.result (λ ended. then_added _ _ w0 w1 w3 c.in_ok-put.ensures (then_added _ _ w1 w2 w3 told ended)) c.put-2.ensures
