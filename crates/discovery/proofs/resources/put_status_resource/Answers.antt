use Rattle.std.proofs.Common.{true, [], ◌∷◌, ◌++◌, codes, rules}
use Rattle.json.specs.Token.{begin_array, begin_object, boolean, key, string}
use Rattle.api_types.specs.ServedViews.{served}
use Rattle.discovery.specs.Writing.{Adds}
use Rattle.std.proofs.lemmas.Result.{on_ok_weaker}
use Rattle.discovery.proofs.Appended.{then_added}
use Rattle.discovery.proofs.resources.put_status_resource.Goals as goal

pub returns : goal.returns
returns c =
    let w0 = c.args.writer.now in
    let w1 = c.begin.new.writer in
    let w2 = c.put_status_verbs.new.writer in
    let t = served c.args.one.now in
    let begun : Adds (begin_object ∷ key (codes "name") ∷ string (t.plural ++ codes "/status") ∷ key (codes "singularName") ∷ string [] ∷ key (codes "namespaced") ∷ boolean true ∷ key (codes "kind") ∷ string t.kind ∷ key (codes "verbs") ∷ begin_array ∷ []) w0 w1 = search rules in
    on_ok_weaker c.put_status_verbs.result (λ ended. then_added _ _ w0 w1 w2 begun ended) c.put_status_verbs.ensures
