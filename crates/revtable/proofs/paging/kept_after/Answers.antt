use Rattle.std.proofs.Common.{◌∙◌}
use Rattle.revtable.proofs.paging.kept_after.Goals as goal

pub returns-clause-ok : goal.returns-clause-ok
returns-clause-ok g c = c.kept_in.ensures.ok _ (c.as_str.ensures.value ∙ c.in_ok-low.ensures)
