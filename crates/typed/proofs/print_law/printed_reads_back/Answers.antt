use Rattle.typed.proofs.RoundTrip.{round}
use Rattle.typed.proofs.print_law.printed_reads_back.Goals as goal

pub returns : goal.returns
returns c = round
