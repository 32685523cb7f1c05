use Rattle.std.proofs.Common.{subst, sym}
use Rattle.world.specs.Recording.{ReportsRefusal}
use Rattle.world.proofs.Refusals.{hub_refuses, hub_takes}
use Rattle.world.proofs.world.by_hub.Goals as goal

pub returns-in-Some-clause-refuses : goal.returns-in-Some-clause-refuses
returns-in-Some-clause-refuses c = λ s e reported. hub_refuses s e c.in-Some.why (subst (ReportsRefusal s e) c.in-Some.is reported)

pub returns-in-None-clause-refuses : goal.returns-in-None-clause-refuses
returns-in-None-clause-refuses c = λ s e reported. hub_takes s e (subst (ReportsRefusal s e) c.in-None.is reported)

pub returns-in-Some-clause-same : goal.returns-in-Some-clause-same
returns-in-Some-clause-same c = sym c.in-Some.is

pub returns-in-None-clause-same : goal.returns-in-None-clause-same
returns-in-None-clause-same c = sym c.in-None.is
