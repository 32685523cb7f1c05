use Rattle.serving.proofs.Receiving.{sends_taken}
use Rattle.serving.proofs.conversing.write_out.Goals as goal

pub returns : goal.returns
returns g c = sends_taken _ _ _ _ _ _ _ _ c.bytes_are_taken.ensures c.out.ensures c.take.ensures.takes c.write_prefix-count.ensures.prefix c.write_prefix-count.ensures.all
