use Rattle.std.proofs.Common.{rules, ◌≡◌, ◌∙◌, Some, None, ap, sym}
use Rattle.std.specs.FinMap as fin
use Rattle.summary.specs.Steps.{less_one, with_left}
use Rattle.summary.specs.Summary.{counts_in}
use Rattle.summary.proofs.Tally.{get_tally, tally_insert, tally_remove, insert_remove, left_some}
use Rattle.summary.proofs.counting.take_one.Goals as goal

pub returns-in_default : goal.returns-in_default
returns-in_default c =
    let old = c.args.counts.now in
    let v = c.args.value.now in
    let at : fin.get (counts_in old) v ≡ None = get_tally old v ∙ sym c.in_default.ensures.value in
    ap counts_in c.get_mut.follows.holds-at-none ∙ sym (ap (less_one (counts_in old) v) at)

pub returns-else-count-eq0 : goal.returns-else-count-eq0
returns-else-count-eq0 c =
    let old = c.args.counts.now in
    let v = c.args.value.now in
    let w = c.saturating_sub.result in
    let at : fin.get (counts_in old) v ≡ Some c.in-Some.count.now = get_tally old v ∙ sym c.in-Some.ensures.value in
    tally_insert old (c.get_mut.follows.lender w) v w ((c.get_mut.follows.holds w).3 (search rules))
    ∙ left_some (counts_in old) v w c.if-count-eq0.false
    ∙ ap (with_left (counts_in old) v) c.saturating_sub.ensures
    ∙ sym (ap (less_one (counts_in old) v) at)

pub returns-then-count-eq0 : goal.returns-then-count-eq0
returns-then-count-eq0 c =
    let old = c.args.counts.now in
    let v = c.args.value.now in
    let w = c.saturating_sub.result in
    let between = c.get_mut.follows.lender w in
    let at : fin.get (counts_in old) v ≡ Some c.in-Some.count.now = get_tally old v ∙ sym c.in-Some.ensures.value in
    tally_remove between c.remove.new.self v c.remove.ensures.updates
    ∙ ap (λ m. fin.remove m v) (tally_insert old between v w ((c.get_mut.follows.holds w).3 (search rules)))
    ∙ insert_remove (counts_in old) v w
    ∙ ap (with_left (counts_in old) v) (sym c.if-count-eq0.true ∙ c.saturating_sub.ensures)
    ∙ sym (ap (less_one (counts_in old) v) at)
