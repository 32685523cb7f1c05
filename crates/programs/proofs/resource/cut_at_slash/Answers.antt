use Rattle.std.proofs.Common.{lit<}
use Rattle.std.proofs.lemmas.Str.Pattern.{split_once_first}
use Rattle.programs.proofs.Cuts.{cut}
use Rattle.programs.proofs.resource.cut_at_slash.Goals as goal

pub returns : goal.returns
returns c = cut c.args.text.now c.split_once.result (split_once_first 47 c.args.text.now c.split_once.result c.split_once.ensures.cases (lit< tt))
