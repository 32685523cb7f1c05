use Rattle.std.proofs.Common.{◌∙◌, ◌≤◌, ap, ap₂, min, sym, subst, Some}
use Rattle.history.specs.Page.{listed}
use Rattle.history.specs.Seen.{limited}
use Rattle.history.specs.View.{state_in}
use Rattle.lists.specs.Rows.{matching}
use Rattle.lists.specs.Views.{page_seen, start_of}
use Rattle.watchline.specs.Views.{initial_left_of, objects_at}
use Rattle.watchline.specs.Watches.{initial_left_by_next}
use Rattle.watchline.proofs.Coming.{left_same, min_high, min_low, page_at, past_some}
use Rattle.watchline.proofs.objects.objects_from.Goals as goal

pub selected_page-requires-clause-low : goal.selected_page-requires-clause-low
selected_page-requires-clause-low c =
    let v = c.args.store.now in
    subst (λ r. v.compacted ≤ r) (sym (c.min-revision.ensures ∙ ap (min c.args.position) c.current.ensures.current)) (min_low v c.args.position c.requires.sound c.requires.low)

pub selected_page-requires-clause-high : goal.selected_page-requires-clause-high
selected_page-requires-clause-high c =
    let v = c.args.store.now in
    subst (λ r. r ≤ v.current) (sym (c.min-revision.ensures ∙ ap (min c.args.position) c.current.ensures.current)) (min_high v c.args.position)

pub returns-clause-found : goal.returns-clause-found
returns-clause-found c =
    let v = c.args.store.now in
    let scope = c.args.scope.now in
    let start = c.args.start.now in
    ap (λ p. p.found) (
    page_at v scope c.args.position c.min-revision.result c.args.max start (page_seen c.in_ok-page.page) c.requires.sound
    (c.min-revision.ensures ∙ ap (min c.args.position) c.current.ensures.current)
    (c.in_ok-page.ensures.page
    ∙ ap₂ (λ kind namespace. limited (Some c.args.max) (matching scope.selector (listed kind namespace (start_of start) (state_in v c.min-revision.result)))) c.collection.ensures.kind c.collection.ensures.namespace)
    )

pub returns-clause-left : goal.returns-clause-left
returns-clause-left c =
    let v = c.args.store.now in
    let scope = c.args.scope.now in
    let start = c.args.start.now in
    left_same c.in_ok-left.left (page_seen c.in_ok-page.page).next c.in_ok-left.ensures
    ∙ ap (λ p. initial_left_by_next p.next) (
    page_at v scope c.args.position c.min-revision.result c.args.max start (page_seen c.in_ok-page.page) c.requires.sound
    (c.min-revision.ensures ∙ ap (min c.args.position) c.current.ensures.current)
    (c.in_ok-page.ensures.page
    ∙ ap₂ (λ kind namespace. limited (Some c.args.max) (matching scope.selector (listed kind namespace (start_of start) (state_in v c.min-revision.result)))) c.collection.ensures.kind c.collection.ensures.namespace)
    )
    ∙ sym (past_some c.args.max (objects_at v scope c.args.position start) (initial_left_of (Some start)) c.if-max-eq0.false)
