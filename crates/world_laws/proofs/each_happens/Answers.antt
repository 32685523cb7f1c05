use Rattle.world_laws.proofs.EachHappens.{each_steps}
use Rattle.world_laws.proofs.each_happens.Goals as goal

pub returns : goal.returns
returns c = each_steps c.args.server.now c.args.client.now
    (record { by_none = c.each_steps.ensures.without_bytes; by_bytes = c.each_steps.ensures.with_bytes; items = c.each_reads.ensures; prefix = c.prefixes_stand.ensures.prefix })
