use Rattle.std.proofs.Common.{◌≡◌, ◌∙◌, ap, map}
use Rattle.history.specs.Page.{listed}
use Rattle.history.specs.Seen.{limited}
use Rattle.history.specs.View.{state_in}
use Rattle.params.specs.Views.{values_of}
use Rattle.history.specs.Read.{entry_of}
use Rattle.lists.specs.Lists.{page_limit}
use Rattle.lists.specs.Rows.{matching}
use Rattle.lists.specs.Views.{collection_of}
use Rattle.lists.proofs.Reading.{seen_rows}
use Rattle.lists.proofs.page.page_of.Goals as goal

pub returns-clause-page : goal.returns-clause-page
returns-clause-page c =
    let of = collection_of c.args.of in
    let values = values_of c.args.params.now in
    let s = state_in c.args.store.now c.args.revision in
    c.cut.ensures ∙ ap (λ l. limited l (map entry_of c.in_ok-found.found.items)) c.page_limit.ensures ∙ c.in_ok-found.ensures.found
    ∙ ap (λ start. limited (page_limit values.limit) (matching values.selector (listed of.kind of.namespace start s))) c.in_ok-start.ensures
    ∙ seen_rows of.kind of.namespace values.selector values.token (page_limit values.limit) s
