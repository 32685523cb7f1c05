use Rattle.selector.proofs.Named.{asks_at}
use Rattle.selector.proofs.requirement.name_in.Goals as goal

pub returns-in-Some : goal.returns-in-Some
returns-in-Some c =
    asks_at c.args.requirements.now c.loop-requirement.requirement-index c.requirement-item.result c.in-Some.name.now c.loop-requirement-test.true c.requirement-item.is c.in-Some.ensures
