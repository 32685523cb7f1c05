use Rattle.std.proofs.Common.{◌∙◌, ap}
use Rattle.history.specs.View.{view}
use Rattle.verbs.proofs.api.opened.Goals as goal

pub returns-clause-store : goal.returns-clause-store
returns-clause-store c = c.new-2.ensures ∙ ap view c.in_ok-table.ensures
