use Rattle.wire_laws.proofs.Silence.{chunks_alone}
use Rattle.wire_laws.proofs.watches.watches_write_chunks.Goals as goal

pub returns : goal.returns
returns c = chunks_alone
