use Rattle.std.proofs.Common.{◌≡◌, suc, ◌-◌, ap, drop, length, sym, ◌∙◌, arith}
use Rattle.std.proofs.lemmas.List.{length-drop, take_all}
use Rattle.history.specs.History.{later}
use Rattle.revstore.specs.ChangeWindow.{changes_in}
use Rattle.revstore.proofs.Latest.{later_skipped}
use Rattle.revstore.proofs.window.from_after.Goals as goal

pub returns-then-last-after : goal.returns-then-last-after
returns-then-last-after c = λ top rise.
    let found = c.in-Some.ensures.lookup in
    let all = c.args.all.now in
    let skipped = c.saturating_sub-skipped.result in
    let next : suc (skipped - 1) ≡ skipped = omega (arith, c.if-skipped-eq0.false) in
    ap (λ l. later c.args.after (changes_in l)) (take_all (length all - skipped) (drop skipped all) (omega (arith, length-drop skipped all)) ∙ ap (λ n. drop n all) (sym next))
    ∙ later_skipped c.args.from top c.args.after (skipped - 1) all c.in-Some.last.now rise found.3.0 found.1 c.if-last-after.true
