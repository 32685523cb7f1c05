use Rattle.std.proofs.Common.{◌∙◌, ◌==◌, ◌≤◌, None, Some, ap, option_map, subst, sym}
use Rattle.std.specs.FinMap as fin
use Rattle.history.specs.Page.{listed}
use Rattle.history.specs.Seen.{limited, selected}
use Rattle.history.specs.View.{state_in}
use Rattle.history.proofs.Revisions.{rising_ends}
use Rattle.lists.specs.Labels.{selection_of}
use Rattle.lists.specs.Rows.{matching}
use Rattle.watchline.proofs.Coming.{matched, none_stand, some_stand}
use Rattle.watchline.proofs.opening.initial_in.Goals as goal

pub selected_page-requires-clause-low : goal.selected_page-requires-clause-low
selected_page-requires-clause-low c =
    let v = c.args.store.now in
    subst (λ r. v.compacted ≤ r) (sym c.current.ensures.current) (rising_ends v.compacted v.current v.changes c.current.ensures.sound.rising)

pub returns-then-is_empty-clause-initial : goal.returns-then-is_empty-clause-initial
returns-then-is_empty-clause-initial c =
    let v = c.args.store.now in
    let kind = c.args.of.kind in
    let namespace = option_map (λ b. b.now) c.args.of.namespace in
    let requirements = c.args.selector.now in
    let items = c.in_ok-first.first.found.items in
    none_stand (fin.entries (selected (selection_of kind namespace requirements) (state_in v v.current))) items
    (ap (λ p. p.found) (
    c.in_ok-first.ensures.page ∙ ap (λ r. limited (Some 1) (matching requirements (listed kind namespace None (state_in v r)))) c.current.ensures.current
    ∙ ap (limited (Some 1)) (matched kind namespace requirements None (state_in v v.current))
    ))
    (ap (λ n. n == 0) (sym c.in_ok-first.first.found.ok.0) ∙ sym c.is_empty.ensures ∙ c.if-is_empty.true)

pub returns-clause-initial : goal.returns-clause-initial
returns-clause-initial c =
    let v = c.args.store.now in
    let kind = c.args.of.kind in
    let namespace = option_map (λ b. b.now) c.args.of.namespace in
    let requirements = c.args.selector.now in
    let items = c.in_ok-first.first.found.items in
    some_stand (fin.entries (selected (selection_of kind namespace requirements) (state_in v v.current))) items
    (ap (λ p. p.found) (
    c.in_ok-first.ensures.page ∙ ap (λ r. limited (Some 1) (matching requirements (listed kind namespace None (state_in v r)))) c.current.ensures.current
    ∙ ap (limited (Some 1)) (matched kind namespace requirements None (state_in v v.current))
    ))
    (ap (λ n. n == 0) (sym c.in_ok-first.first.found.ok.0) ∙ sym c.is_empty.ensures ∙ c.if-is_empty.false)
