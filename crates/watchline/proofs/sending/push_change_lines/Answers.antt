use Rattle.std.proofs.Common.{◌∙◌, ◌++◌, ap, map, string_bytes}
use Rattle.std.proofs.lemmas.List.{take_all}
use Rattle.watchline.specs.Lines.{line_of}
use Rattle.watchline.specs.Views.{seen_change_of, lines_in}
use Rattle.watchline.proofs.Putting.{map_twice, one_more}
use Rattle.watchline.proofs.sending.push_change_lines.Goals as goal

pub returns : goal.returns
returns c =
    c.loop-change.invariant
    ∙ ap (λ cs. lines_in c.args.lines.now.items ++ map (λ s. line_of (seen_change_of s)) cs) (take_all c.loop-change.change-index c.args.changes.now c.loop-change-test.false)
    ∙ ap (λ ls. lines_in c.args.lines.now.items ++ ls) (map_twice line_of seen_change_of c.args.changes.now)

pub loop-change-preserved : goal.loop-change-preserved
loop-change-preserved c =
    ap lines_in c.in_ok-push.ensures.items
    ∙ one_more string_bytes (λ s. line_of (seen_change_of s)) (lines_in c.args.lines.now.items) c.loop-change.lines.items c.in_ok-change_line.field-0 c.args.changes.now c.loop-change.change-index c.change-item.result
    c.loop-change-test.true c.change-item.is c.in_ok-change_line.ensures c.loop-change.invariant
