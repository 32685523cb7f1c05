use Rattle.wireclient.proofs.Chunked.{watch_read}
use Rattle.wireclient.proofs.laws.watch_reads_back.Goals as goal

pub returns : goal.returns
returns c = watch_read
