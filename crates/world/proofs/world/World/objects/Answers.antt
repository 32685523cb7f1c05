use Rattle.std.proofs.Common.{◌∙◌, ap, map}
use Rattle.std.proofs.lemmas.Result.{IfOk-weaker}
use Rattle.indexer.specs.Indexer.{indexes_of}
use Rattle.indexer.specs.Kept.{objects_in}
use Rattle.reflector.specs.Client.{kept}
use Rattle.reflector.specs.MirrorRepresentsViews.{keys_in}
use Rattle.world.proofs.Reports.{keyed_objects}
use Rattle.world.proofs.world.World.objects.Goals as goal

pub returns : goal.returns
returns g c = λ task o w represents.
    let k = represents.client in
    IfOk-weaker c.objects_of.result _ _ (λ v same.
    same ∙ ap (λ held. map (λ e. e.1) (objects_in held)) (c.indexer.ensures.objects w.client k.0 k.1 k.2)
    ∙ ap (map (λ e. e.1)) (keyed_objects (keys_in (λ b s. g.I.IndexBy.keys b s) (indexes_of c.indexer.result.now)) (kept w.client.cache)))
    c.objects_of.ensures
