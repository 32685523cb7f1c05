use Rattle.std.proofs.Common.{◌∙◌, ap, map, sym}
use Rattle.history.specs.Seen.{limited}
use Rattle.history.specs.Read.{entry_of}
use Rattle.lists.proofs.Reading.{cut_at}
use Rattle.lists.proofs.page.cut.Goals as goal

pub returns : goal.returns
returns c =
    cut_at c.in-Some.limit c.args.found.items c.truncate.new.self.items c.len.result c.truncate.ensures.items (c.len.ensures ∙ c.args.found.ok.0)
    ∙ ap (λ l. limited l (map entry_of c.args.found.items)) (sym c.in-Some.is)
