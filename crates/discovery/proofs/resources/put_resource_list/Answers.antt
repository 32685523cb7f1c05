use Rattle.std.proofs.Common.{[], ◌∷◌, ap, ◌∙◌, codes}
use Rattle.json.specs.Token.{begin_array, begin_object, key, string}
use Rattle.std.proofs.lemmas.Result.{on_ok_weaker}
use Rattle.discovery.proofs.Appended.{same_added, then_added}
use Rattle.discovery.proofs.resources.put_resource_list.Goals as goal

pub returns : goal.returns
returns c =
    let w0 = c.args.writer.now in
    let w1 = c.put.new.writer in
    let w2 = c.put_resources.new.writer in
    let w3 = c.put-2.new.writer in
    let begun =
    same_added _ _ w0 w1 (ap (λ s. begin_object ∷ key (codes "kind") ∷ string (codes "APIResourceList") ∷ key (codes "apiVersion") ∷ string (codes "v1") ∷ key (codes "groupVersion") ∷ string s ∷ key (codes "resources") ∷ begin_array ∷ []) (c.as_str.ensures.value ∙ c.in_ok-name.ensures))
    c.in_ok-put.ensures in
    on_ok_weaker c.put-2.result (λ ended. then_added _ _ w0 w1 w3 begun (then_added _ _ w1 w2 w3 c.in_ok-put_resources.ensures ended)) c.put-2.ensures
