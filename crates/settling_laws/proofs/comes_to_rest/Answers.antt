use Rattle.settling_laws.proofs.Resting as resting
use Rattle.settling_laws.proofs.WholeRest as whole
use Rattle.settling_laws.proofs.comes_to_rest.Goals as goal

pub returns : goal.returns
returns c = record {
  steps = resting.comes_to_rest c.catches_up.ensures c.settles.ensures c.settled_stays.ensures.stays;
  whole = whole.comes_to_rest c.catches_up.ensures c.settles.ensures c.settled_stays.ensures.rests c.settled_stays.ensures.stays;
}
