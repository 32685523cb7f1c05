use Rattle.std.proofs.Common.{◌∙◌, List, ap, ap₂, take}
use Rattle.history.specs.Page.{listed}
use Rattle.history.specs.View.{state_in}
use Rattle.revtable.specs.Kept.{kept_among}
use Rattle.selector.specs.Requirement.{Requirement, selects}
use Rattle.lists.specs.Labels.{labels_of}
use Rattle.lists.specs.Rows.{Start}
use Rattle.lists.specs.Views.{collection_of, start_of}
use Rattle.lists.proofs.Reading.{by_labels}
use Rattle.lists.proofs.page.first_selected.Goals as goal

pub returns-in-Ok-clause-first : goal.returns-in-Ok-clause-first
returns-in-Ok-clause-first c =
    let of = collection_of c.args.selected.collection in
    let s = state_in c.args.store.now c.args.selected.revision in
    c.in-Ok.ensures.ok
    ∙ ap₂ (λ (requirements : List Requirement) (start : Start). take c.args.max (kept_among (λ text. selects requirements (labels_of text)) (listed of.kind of.namespace start s))) c.new-keep.ensures c.place.ensures
    ∙ ap (take c.args.max) (by_labels c.args.selected.selector.now c.requires.by_labels (listed of.kind of.namespace (start_of c.args.start.now) s))

pub returns-in-Ok-clause-whole : goal.returns-in-Ok-clause-whole
returns-in-Ok-clause-whole c most =
    let of = collection_of c.args.selected.collection in
    let s = state_in c.args.store.now c.args.selected.revision in
    c.in-Ok.ensures.whole most
    ∙ ap₂ (λ (requirements : List Requirement) (start : Start). kept_among (λ text. selects requirements (labels_of text)) (listed of.kind of.namespace start s)) c.new-keep.ensures c.place.ensures
    ∙ by_labels c.args.selected.selector.now c.requires.by_labels (listed of.kind of.namespace (start_of c.args.start.now) s)
