use Rattle.std.proofs.Common.{◌∙◌, ◌+◌, not, ◌&&◌, drop, sym, ap}
use Rattle.objects.specs.Managers.{pairs}
use Rattle.objects.specs.Ranks.{have_paths}
use Rattle.objects.proofs.Rising.{first_decides}
use Rattle.objects.proofs.managers.have_paths.Goals as goal

pub returns-then-is_empty : goal.returns-then-is_empty
returns-then-is_empty c =
    let es = c.args.entries.now in
    let i = c.loop-entry.entry-index in
    sym (sym c.loop-entry.invariant ∙ first_decides es i c.entry-item.result c.is_empty.result c.loop-entry-test.true c.entry-item.is c.is_empty.ensures
    ∙ ap (λ x. not x && have_paths (pairs (drop (i + 1) es))) c.if-is_empty.true)

pub loop-entry-preserved : goal.loop-entry-preserved
loop-entry-preserved c =
    let es = c.args.entries.now in
    let i = c.loop-entry.entry-index in
    sym (first_decides es i c.entry-item.result c.is_empty.result c.loop-entry-test.true c.entry-item.is c.is_empty.ensures
    ∙ ap (λ x. not x && have_paths (pairs (drop (i + 1) es))) c.if-is_empty.false) ∙ c.loop-entry.invariant
