use Rattle.wire_laws.proofs.LongLines.{short_sent}
use Rattle.wire_laws.proofs.PrintedWatches.{Reader, watch_read}
use Rattle.wire_laws.proofs.watches.watches_are_read.Goals as goal

pub returns : goal.returns
returns c =
    let reader : Reader = record { ended = c.chunks_read_back.ensures; still = c.watch_reads_back.ensures; long = c.long_lines_are_malformed.ensures.lines; sized = c.long_lines_are_malformed.ensures.sizes } in
    record { lines = watch_read reader; short = short_sent }
