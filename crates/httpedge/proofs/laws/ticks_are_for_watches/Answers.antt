use Rattle.httpedge.proofs.Staying.{out_of_memory_idle, ticked_idle}
use Rattle.httpedge.proofs.laws.ticks_are_for_watches.Goals as goal

pub returns : goal.returns
returns c = record { with_memory = ticked_idle; without_memory = out_of_memory_idle }
