use Rattle.std.proofs.Common.{◌++◌, map, ap, ◌∙◌}
use Rattle.pathmap.specs.Contents.{in_order}
use Rattle.objects.specs.Managers.{manager_view}
use Rattle.ownership.specs.Results.{conflict_of}
use Rattle.ownership.proofs.Dropping.{intersection-turned}
use Rattle.ownership.proofs.applying.add_conflicts.Goals as goal

pub loop-path-init : goal.loop-path-init
loop-path-init c =
    ap (λ ps. map conflict_of c.args.all.now.items ++ map (λ p. (p, manager_view c.args.entry.now.manager)) ps)
    (c.into_iter-path-iterator.ensures.into_iter_gives.0 ∙ c.in_ok-paths.ensures ∙ ap in_order (c.in_ok-common.ensures ∙ intersection-turned c.args.changed.now c.args.entry.now.paths))
