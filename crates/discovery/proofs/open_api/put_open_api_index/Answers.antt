use Rattle.std.proofs.Common.{ap, ◌∙◌, map}
use Rattle.std.proofs.lemmas.Result.{on_ok_weaker}
use Rattle.json.specs.Tree.{members_tokens}
use Rattle.api_types.specs.ServedViews.{served}
use Rattle.discovery.specs.Documents.{members_by}
use Rattle.discovery.specs.Groups.{firsts}
use Rattle.discovery.specs.OpenApi.{add_reference}
use Rattle.discovery.specs.declared.likeness.Likeness.TheVariants.{Version}
use Rattle.discovery.proofs.Appended.{same_added, then_added}
use Rattle.discovery.proofs.open_api.put_open_api_index.Goals as goal

pub returns : goal.returns
returns c =
    let types = map served c.args.types.now in
    let w0 = c.args.writer.now in
    let w1 = c.put.new.writer in
    let w2 = c.put_references.new.writer in
    let w3 = c.put-2.new.writer in
    let told =
    same_added _ (members_tokens (members_by add_reference (firsts Version types))) w1 w2 (ap (λ ts. members_tokens (members_by add_reference ts)) (ap (λ vs. map (λ u. served u.now) vs) c.deref.ensures.value ∙ c.in_ok-versions.ensures))
    c.in_ok-put_references.ensures in
    on_ok_weaker c.put-2.result (λ ended. then_added _ _ w0 w1 w3 c.in_ok-put.ensures (then_added _ _ w1 w2 w3 told ended)) c.put-2.ensures
