use Rattle.std.proofs.Common.{◌≡◌, ◌≤◌, ℕ, Option, ap, subst, sym, map, take, ◌∙◌}
use Rattle.history.specs.History.{last_revision}
use Rattle.history.specs.Page.{listed}
use Rattle.history.specs.Seen.{limited}
use Rattle.history.specs.View.{state_in}
use Rattle.history.specs.Read.{entry_of}
use Rattle.revtable.proofs.Outcomes.{when_ok}
use Rattle.lists.specs.Rows.{matching}
use Rattle.lists.specs.Views.{collection_of, start_of}
use Rattle.lists.proofs.Reading.{both_ok, enough_asked}
use Rattle.lists.proofs.page.found_for_page.Goals as goal

pub returns-then-asks_name-clause-found : goal.returns-then-asks_name-clause-found
returns-then-asks_name-clause-found c =
    let of = collection_of c.args.selected.collection in
    let all = matching c.args.selected.selector.now (listed of.kind of.namespace (start_of c.args.start) (state_in c.args.store.now c.args.selected.revision)) in
    when_ok c.found_from.result _ _ (λ v found. subst (λ (limit : Option ℕ). limited limit (map entry_of v.items) ≡ limited limit all) c.page_limit.ensures found) c.found_from.ensures.found

pub returns-clause-found : goal.returns-clause-found
returns-clause-found c =
    let of = collection_of c.args.selected.collection in
    let all = matching c.args.selected.selector.now (listed of.kind of.namespace (start_of c.args.start) (state_in c.args.store.now c.args.selected.revision)) in
    when_ok c.first_selected.result _ _ (λ v found.
    enough_asked c.args.limit (map entry_of v.items) all (found.0 ∙ ap (λ n. take n all) c.asked_for.ensures) (λ le. found.1 (subst (λ n. last_revision ≤ n) (sym c.asked_for.ensures) le)))
    (both_ok c.first_selected.result _ _ _ c.first_selected.ensures.first c.first_selected.ensures.whole)
