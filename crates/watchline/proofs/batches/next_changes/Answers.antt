use Rattle.std.proofs.Common.{◌∙◌, ◌≤◌, ◌<◌, ap, sym, subst, map, string_bytes}
use Rattle.std.specs.Option.{option_map}
use Rattle.std.proofs.lemmas.List.{length-map}
use Rattle.history.specs.Read.{change_of}
use Rattle.watchline.specs.BatchViews.{revision_of_last}
use Rattle.watchline.proofs.Batched.{all_between, ends_here, leads_low, leads_lower, leads_on}
use Rattle.watchline.proofs.batches.next_changes.Goals as goal

pub returns-then-len-max-clause-changes : goal.returns-then-len-max-clause-changes
returns-then-len-max-clause-changes c =
    ends_here c.args.scope.now.kind (option_map string_bytes c.args.scope.now.namespace) c.args.store.now c.requires.sound c.args.after c.requires.low c.args.max (map change_of c.in_ok-changes.changes.items) c.in_ok-changes.ensures.changes
    (subst (λ n. n < c.args.max) (c.len.ensures ∙ c.in_ok-changes.changes.ok.0 ∙ sym (length-map c.in_ok-changes.changes.items change_of)) c.if-len-max.true)

pub returns-then-len-max-clause-between : goal.returns-then-len-max-clause-between
returns-then-len-max-clause-between c =
    all_between c.args.scope.now.kind (option_map string_bytes c.args.scope.now.namespace) c.args.store.now c.requires.sound c.args.after c.requires.low c.args.max (map change_of c.in_ok-changes.changes.items) c.in_ok-changes.ensures.changes

pub returns-clause-changes : goal.returns-clause-changes
returns-clause-changes c =
    leads_on c.args.scope.now.kind (option_map string_bytes c.args.scope.now.namespace) c.args.store.now c.requires.sound c.args.after c.requires.low c.args.max (map change_of c.in_ok-changes.changes.items) c.in_ok-changes.ensures.changes c.requires.some
    (subst (λ n. c.args.max ≤ n) (c.len.ensures ∙ c.in_ok-changes.changes.ok.0 ∙ sym (length-map c.in_ok-changes.changes.items change_of)) c.if-len-max.false)
    c.revision_of_last-next.result (c.revision_of_last-next.ensures ∙ ap (λ xs. revision_of_last (map change_of xs)) c.deref.ensures.value)

pub returns-clause-fewer : goal.returns-clause-fewer
returns-clause-fewer c =
    leads_lower c.args.scope.now.kind (option_map string_bytes c.args.scope.now.namespace) c.args.store.now c.requires.sound c.args.after c.requires.low c.args.max (map change_of c.in_ok-changes.changes.items) c.in_ok-changes.ensures.changes c.requires.some
    (subst (λ n. c.args.max ≤ n) (c.len.ensures ∙ c.in_ok-changes.changes.ok.0 ∙ sym (length-map c.in_ok-changes.changes.items change_of)) c.if-len-max.false)
    c.revision_of_last-next.result (c.revision_of_last-next.ensures ∙ ap (λ xs. revision_of_last (map change_of xs)) c.deref.ensures.value)

pub returns-clause-between : goal.returns-clause-between
returns-clause-between c =
    all_between c.args.scope.now.kind (option_map string_bytes c.args.scope.now.namespace) c.args.store.now c.requires.sound c.args.after c.requires.low c.args.max (map change_of c.in_ok-changes.changes.items) c.in_ok-changes.ensures.changes

pub returns-clause-low : goal.returns-clause-low
returns-clause-low c =
    leads_low c.args.scope.now.kind (option_map string_bytes c.args.scope.now.namespace) c.args.store.now c.requires.sound c.args.after c.requires.low c.args.max (map change_of c.in_ok-changes.changes.items) c.in_ok-changes.ensures.changes c.requires.some
    (subst (λ n. c.args.max ≤ n) (c.len.ensures ∙ c.in_ok-changes.changes.ok.0 ∙ sym (length-map c.in_ok-changes.changes.items change_of)) c.if-len-max.false)
    c.revision_of_last-next.result (c.revision_of_last-next.ensures ∙ ap (λ xs. revision_of_last (map change_of xs)) c.deref.ensures.value)
