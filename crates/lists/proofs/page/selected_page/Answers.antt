use Rattle.std.proofs.Common.{◌∙◌, ap, Some}
use Rattle.history.specs.Page.{listed}
use Rattle.history.specs.Seen.{limited}
use Rattle.history.specs.View.{state_in}
use Rattle.lists.specs.Rows.{matching}
use Rattle.lists.specs.Views.{collection_of}
use Rattle.lists.proofs.page.selected_page.Goals as goal

pub returns-clause-page : goal.returns-clause-page
returns-clause-page c =
    let of = collection_of c.args.selected.collection in
    c.cut.ensures ∙ c.in_ok-found.ensures.found
    ∙ ap (λ start. limited (Some c.args.max) (matching c.args.selected.selector.now (listed of.kind of.namespace start (state_in c.args.store.now c.args.selected.revision)))) c.in_ok-start.ensures
