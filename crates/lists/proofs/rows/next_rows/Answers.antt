use Rattle.std.proofs.Common.{◌∙◌, ◌≤◌, ap, sym, subst, map}
use Rattle.std.specs.Option.{option_map}
use Rattle.std.proofs.lemmas.List.{length-map}
use Rattle.history.specs.Seen.{last_key}
use Rattle.history.specs.View.{state_in}
use Rattle.history.specs.Read.{entry_of}
use Rattle.lists.specs.Rows.{place_of}
use Rattle.lists.specs.Views.{collection_of, start_of}
use Rattle.lists.proofs.Reading.{reaches_lower, reaches_on}
use Rattle.lists.proofs.rows.next_rows.Goals as goal

pub returns-clause-rows : goal.returns-clause-rows
returns-clause-rows c =
    let of = collection_of c.args.of in
    reaches_on of.kind of.namespace (state_in c.args.store.now c.args.revision) (start_of c.args.start.now) c.args.max (map entry_of c.in_ok-rows.rows.items) c.in_ok-rows.ensures.rows c.requires.some
    (subst (λ n. c.args.max ≤ n) (c.len.ensures ∙ c.in_ok-rows.rows.ok.0 ∙ sym (length-map c.in_ok-rows.rows.items entry_of)) c.if-len-max.false)
    (option_map start_of c.in_ok-next.next) (c.in_ok-next.ensures ∙ ap (λ xs. option_map place_of (last_key (map entry_of xs))) c.deref.ensures.value)

pub returns-clause-fewer : goal.returns-clause-fewer
returns-clause-fewer c =
    let of = collection_of c.args.of in
    reaches_lower of.kind of.namespace (state_in c.args.store.now c.args.revision) (start_of c.args.start.now) c.args.max (map entry_of c.in_ok-rows.rows.items) c.in_ok-rows.ensures.rows c.requires.some
    (subst (λ n. c.args.max ≤ n) (c.len.ensures ∙ c.in_ok-rows.rows.ok.0 ∙ sym (length-map c.in_ok-rows.rows.items entry_of)) c.if-len-max.false)
    (option_map start_of c.in_ok-next.next) (c.in_ok-next.ensures ∙ ap (λ xs. option_map place_of (last_key (map entry_of xs))) c.deref.ensures.value)
