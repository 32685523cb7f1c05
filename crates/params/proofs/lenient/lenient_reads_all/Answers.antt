use Rattle.params.proofs.LenientReads.{lenient_reads_all}
use Rattle.params.proofs.lenient.lenient_reads_all.Goals as goal

pub returns : goal.returns
returns c = lenient_reads_all
