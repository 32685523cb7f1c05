use Rattle.std.proofs.Common.{◌∙◌, ap, map}
use Rattle.std.proofs.lemmas.Result.{IfOk-weaker}
use Rattle.indexer.specs.Objects.{place_of, shared_of}
use Rattle.world.proofs.Reports.{second_of}
use Rattle.world.proofs.reporting.objects_of.Goals as goal

pub returns : goal.returns
returns g c =
    IfOk-weaker c.shares.result _ _ (λ v same.
    same ∙ ap (map (λ e. shared_of e.1.now)) c.deref.ensures.value
    ∙ second_of (λ k. place_of k.now) (λ o. shared_of o.now) c.in_ok-pairs.pairs.items ∙ ap (map (λ e. e.1)) c.in_ok-pairs.ensures)
    c.shares.ensures
