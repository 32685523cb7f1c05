use Rattle.settling_laws.proofs.Rest as rest
use Rattle.settling_laws.proofs.rest_stays.Goals as goal

pub returns : goal.returns
returns c = record {
  stays = rest.rest_stays c.applies_ask.ensures c.applies_stay.ensures.stays c.both_ends.ensures.lasts;
  lasts = rest.rest_lasts c.both_ends.ensures.headline;
}
