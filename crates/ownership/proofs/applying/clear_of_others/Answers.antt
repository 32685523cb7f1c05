use Rattle.std.proofs.Common.{ap}
use Rattle.std.specs.Prelude.{filter}
use Rattle.objects.specs.Owners.{others}
use Rattle.objects.specs.Managers.{manager_view}
use Rattle.objects.proofs.Entries.{is_other}
use Rattle.ownership.specs.Apply.{clear_of_all}
use Rattle.ownership.proofs.applying.clear_of_others.Goals as goal

pub loop-entry-init : goal.loop-entry-init
unfolding others
loop-entry-init c = ap (λ es. clear_of_all c.args.paths (filter (is_other (manager_view c.args.manager.now)) es)) c.entries-entries.ensures.entries
