use Rattle.wireclient.proofs.Chunked.{chunked_read}
use Rattle.wireclient.proofs.laws.chunks_read_back.Goals as goal

pub returns : goal.returns
returns c = chunked_read
