use Rattle.std.proofs.Common.{◌≡◌, ◌∙◌, ◌++◌, ap, sym, subst, map}
use Rattle.std.specs.Option.{option_map}
use Rattle.std.proofs.lemmas.List.{length-map, map-append}
use Rattle.history.specs.Page.{listed}
use Rattle.history.specs.Seen.{limited}
use Rattle.history.specs.View.{state_in}
use Rattle.history.specs.Read.{entry_of}
use Rattle.lists.specs.Rows.{matching, rows_left}
use Rattle.lists.specs.Views.{collection_of, start_of}
use Rattle.lists.proofs.Reading.{IsFoundSoFar, enough_found, found_more}
use Rattle.lists.proofs.page.found_in_rows.Goals as goal

pub returns-then-is_over-clause-found : goal.returns-then-is_over-clause-found
returns-then-is_over-clause-found c =
    let of = collection_of c.args.selected.collection in
    let s = state_in c.args.store.now c.args.selected.revision in
    let rows = map entry_of c.in_ok-rows.rows.items in
    let rest = rows_left of.kind of.namespace s (option_map start_of c.in_ok-rows.next) in
    let before = map entry_of c.loop-left.found.items in
    let all = listed of.kind of.namespace (start_of c.args.start) s in
    let found : IsFoundSoFar c.args.selected.selector.now all (map entry_of c.append.new.self.items) rest =
    found_more c.args.selected.selector.now all before (listed of.kind of.namespace (start_of c.in-Some.start) s) rows rest (map entry_of c.append.new.self.items)
    (subst (λ o. IsFoundSoFar c.args.selected.selector.now all before (rows_left of.kind of.namespace s (option_map start_of o))) c.in-Some.is c.loop-left.invariant.0)
    (subst (λ v. listed of.kind of.namespace (start_of c.in-Some.start) (state_in v c.args.selected.revision) ≡ rows ++ rows_left of.kind of.namespace (state_in v c.args.selected.revision) (option_map start_of c.in_ok-rows.next)) c.loop-left.invariant.1 c.in_ok-rows.ensures.rows)
    (ap (map entry_of) c.in_ok-append.ensures.items ∙ map-append entry_of c.loop-left.found.items c.in_ok-more.more.items ∙ ap (λ xs. before ++ xs) c.in_ok-more.ensures) in
    enough_found c.args.limit (map entry_of c.append.new.self.items) (matching c.args.selected.selector.now rest) c.len.result
    (c.len.ensures ∙ c.append.new.self.ok.0 ∙ sym (length-map c.append.new.self.items entry_of)) (sym c.is_over.ensures ∙ c.if-is_over.true)
    ∙ ap (limited c.args.limit) (sym found)
