use Rattle.std.proofs.Common.{◌∙◌, [], None, ap, refl, subst}
use Rattle.std.specs.FinMap as fin
use Rattle.reflector.specs.Client.{fresh}
use Rattle.summary.specs.Counts.{summed_of}
use Rattle.world_laws.specs.Tasks.{wanted_by}
use Rattle.world_laws.specs.World as worlds
use Rattle.world.proofs.AtMost.{few_fresh}
use Rattle.world.proofs.Worlds.{reaches_fresh, leaves}
use Rattle.world.proofs.world.World.restart.Goals as goal

pub returns-clause-happens : goal.returns-clause-happens
returns-clause-happens g c = λ task o w represents.
    let left = c.in_ok-leave.ensures w.hub represents.hub in
    let anew : worlds.World = record w { client = fresh } in
    let v : worlds.World = record anew { hub = left.0; connection = None } in (
      v,
      subst (λ own. worlds.Leaves anew own v) represents.connection (leaves anew _ left.0 represents.connection left.1),
      record {
        hub = left.2;
        requested = represents.requested;
        connection = refl;
        client = ([], [], c.restart.ensures.restarted, tt);
        wanted = c.restart.ensures.settings ∙ represents.wanted;
        reaches = reaches_fresh (wanted_by task);
        few = few_fresh;
        counted = c.new.ensures ∙ ap (λ l. summed_of l fin.empty) (c.in_ok-label.ensures.cases ∙ represents.label);
        label = represents.label;
        place = represents.place;
      },
      left.3,
    )
