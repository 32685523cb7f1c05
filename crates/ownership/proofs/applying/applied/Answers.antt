use Rattle.std.proofs.Common.{refl}
use Rattle.objects.specs.Managers.{manager_view}
use Rattle.objects.specs.Views.{state_of}
use Rattle.ownership.proofs.Dropping.{state_is}
use Rattle.ownership.proofs.applying.applied.Goals as goal

pub returns : goal.returns
returns c same =
    state_is (state_of c.args.live.now) c.args.config (manager_view c.args.manager) c.args.changed.now same (manager_view c.args.manager) c.without-tree.result c.in_ok-managers.managers c.in_ok-laid_over.field-0 c.in_ok-dropped.dropped c.in_ok-owned.owned
    refl c.in_ok-laid_over.ensures (c.in_ok-dropped.ensures c.args.config c.in_ok-owned.ensures) c.without-tree.ensures c.in_ok-owned.ensures c.in_ok-managers.ensures
