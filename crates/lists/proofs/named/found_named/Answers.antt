use Rattle.std.proofs.Common.{◌∙◌, ap, map}
use Rattle.history.specs.View.{state_in}
use Rattle.revtable.proofs.Outcomes.{when_ok}
use Rattle.lists.specs.Rows.{matching, row_at}
use Rattle.lists.specs.Views.{start_of}
use Rattle.lists.proofs.ByName.{row_listed}
use Rattle.lists.proofs.named.found_named.Goals as goal

pub returns-clause-found : goal.returns-clause-found
returns-clause-found c =
    let selected = c.args.selected in
    let s = state_in c.args.store.now selected.revision in
    let start = start_of c.args.start.now in
    when_ok c.matching.result _ _ (λ v h.
    h ∙ ap (matching selected.selector.now) (c.in_ok-rows.ensures.row ∙ ap (row_at start s) c.in_ok-key.ensures)
    ∙ row_listed selected.collection.kind c.args.namespace.now c.args.name.now start selected.selector.now s c.requires.named) c.matching.ensures
