use Rattle.std.proofs.Common.{string_bytes}
use Rattle.summary.specs.Summary.{counts_in}
use Rattle.summary.proofs.Noting.{none_summed}
use Rattle.summary.proofs.Tally.{none_at}
use Rattle.summary.proofs.summary.Summary.new.Goals as goal

pub returns : goal.returns
returns c = none_summed (string_bytes c.args.label) (counts_in c.new.result) (λ q. none_at c.new.result c.new.ensures.empty q)
