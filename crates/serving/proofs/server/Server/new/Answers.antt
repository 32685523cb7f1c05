use Rattle.serving.proofs.Keeping.{no_watches}
use Rattle.serving.proofs.Rising.{alone_rises}
use Rattle.serving.proofs.server.Server.new.Goals as goal

pub returns-clause-watches : goal.returns-clause-watches
returns-clause-watches g c = no_watches _ c.new-2.ensures.items

pub invariant_of-result : goal.invariant_of-result
invariant_of-result g c = record { in_order = alone_rises _ 1 c.new-2.ensures.items }
