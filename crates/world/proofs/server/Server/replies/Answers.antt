use Rattle.std.proofs.Common.{◌∙◌, ap, map}
use Rattle.std.proofs.lemmas.Result.{IfOk-weaker}
use Rattle.world.specs.Serving.{written_at}
use Rattle.world.proofs.Ids.{all_listed}
use Rattle.world.proofs.server.Server.replies.Goals as goal

pub returns : goal.returns
returns c = λ s serves.
    IfOk-weaker c.replies_of.result _ _ (λ v same. same ∙ ap (map (written_at s)) (c.deref.ensures.value ∙ serves.1) ∙ all_listed s) (c.replies_of.ensures s serves.0)
