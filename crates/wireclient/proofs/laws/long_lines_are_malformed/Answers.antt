use Rattle.wireclient.proofs.TooLong.{long_line_read, long_size_read}
use Rattle.wireclient.proofs.laws.long_lines_are_malformed.Goals as goal

pub returns : goal.returns
returns c = record { lines = long_line_read; sizes = long_size_read }
