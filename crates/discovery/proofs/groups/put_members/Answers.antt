use Rattle.std.proofs.Common.{[], ◌∷◌, ap, ◌∙◌, codes, map}
use Rattle.std.proofs.lemmas.Result.{on_ok_weaker}
use Rattle.json.specs.Token.{begin_array, key, string}
use Rattle.json.specs.Tree.{items_tokens}
use Rattle.api_types.specs.ServedViews.{served}
use Rattle.discovery.specs.Documents.{add_version, items_by, version_entries}
use Rattle.discovery.proofs.Appended.{same_added, then_added}
use Rattle.discovery.proofs.groups.put_members.Goals as goal

pub returns : goal.returns
returns c =
    let types = map served c.args.types.now in
    let t = served c.args.of.now in
    let w0 = c.args.writer.now in
    let w1 = c.put.new.writer in
    let w2 = c.put_versions.new.writer in
    let w3 = c.put-2.new.writer in
    let w4 = c.put_version.new.writer in
    let w5 = c.put-3.new.writer in
    let begun = same_added _ (key (codes "name") ∷ string t.group ∷ key (codes "versions") ∷ begin_array ∷ []) w0 w1 (ap (λ s. key (codes "name") ∷ string s ∷ key (codes "versions") ∷ begin_array ∷ []) c.as_str.ensures.value) c.in_ok-put.ensures in
    let told =
    same_added _ (items_tokens (version_entries types t)) w1 w2 (ap (λ ts. items_tokens (items_by (add_version t) ts)) (ap (λ vs. map (λ u. served u.now) vs) c.deref.ensures.value ∙ c.in_ok-versions.ensures))
    c.in_ok-put_versions.ensures in
    on_ok_weaker c.put-3.result
    (λ ended. then_added _ _ w0 w1 w5 begun (then_added _ _ w1 w2 w5 told (then_added _ _ w2 w3 w5 c.in_ok-put-2.ensures (then_added _ _ w3 w4 w5 c.in_ok-put_version.ensures ended)))) c.put-3.ensures
