use Rattle.wire.proofs.Pieces.{prefix_of}
use Rattle.wire.proofs.writing.write_whole.Goals as goal

pub returns-clause-prefix : goal.returns-clause-prefix
returns-clause-prefix g c = prefix_of _ _ c.args.bytes.now _ c.write_prefix.ensures.prefix
