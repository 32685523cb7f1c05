use Rattle.std.proofs.Common.{rules, ◌≡◌, ◌∙◌, Some, None, ap, ap₂, sym, string_bytes}
use Rattle.std.specs.FinMap as fin
use Rattle.summary.specs.Steps.{one_more}
use Rattle.summary.specs.Summary.{counts_in}
use Rattle.summary.proofs.Tally.{get_tally, tally_insert}
use Rattle.summary.proofs.counting.add_one.Goals as goal

pub returns-in-Some-clause-ok : goal.returns-in-Some-clause-ok
returns-in-Some-clause-ok c =
    let old = c.args.counts.now in
    let w = c.saturating_add.result in
    let at : fin.get (counts_in old) c.args.value.now ≡ Some c.in-Some.count.now = get_tally old c.args.value.now ∙ sym c.in-Some.ensures.value in
    tally_insert old (c.get_mut.follows.lender w) c.args.value.now w ((c.get_mut.follows.holds w).3 (search rules))
    ∙ ap (fin.insert (counts_in old) c.args.value.now) (c.saturating_add.ensures ∙ sym (ap one_more at))

pub returns-in_ok-insert-in-None-clause-ok : goal.returns-in_ok-insert-in-None-clause-ok
returns-in_ok-insert-in-None-clause-ok c =
    let old = c.args.counts.now in
    let at : fin.get (counts_in old) c.args.value.now ≡ None = get_tally old c.args.value.now ∙ sym c.in-None.ensures.value in
    tally_insert c.get_mut.follows.lender-at-none c.insert.new.self (string_bytes c.in_ok-from_str-in-None.field-0) 1 c.in_ok-insert-in-None.ensures.updates
    ∙ ap₂ (λ m v. fin.insert (counts_in m) v 1) c.get_mut.follows.holds-at-none c.in_ok-from_str-in-None.ensures.ok
    ∙ ap (fin.insert (counts_in old) c.args.value.now) (sym (ap one_more at))
