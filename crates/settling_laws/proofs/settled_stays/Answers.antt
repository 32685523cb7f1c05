use Rattle.std.proofs.Common.{[], ◌∷◌, refl}
use Rattle.settling_laws.proofs.Again as again
use Rattle.settling_laws.proofs.settled_stays.Goals as goal
use Rattle.world_laws.specs.World.{reconcile}

pub returns : goal.returns
returns c =
    let one : again.OneStep = λ task w v u first second. (c.one_world.ensures task 1 w v u (reconcile ∷ []) _ _ (v, [], first, (refl, refl), refl) (u, [], second, (refl, refl), refl)).0 in
    record {
      rests = again.settled_rests c.applies_stay.ensures.again c.settles.ensures one c.both_ends.ensures.lasts c.both_ends.ensures.headline;
      stays = again.settled_stays c.rest_stays.ensures.stays c.applies_stay.ensures.again c.settles.ensures one c.both_ends.ensures.lasts c.both_ends.ensures.headline;
    }
