use Rattle.std.proofs.Common.{◌≡◌, ◌++◌, map, take}
use Rattle.watchline.specs.Lines.{line_of}
use Rattle.watchline.specs.Views.{seen_change_of, lines_in}
use Rattle.watchline.proofs.sending.push_change_lines.Given as goal

abbrev pub invariant-loop-change : goal.invariant-loop-change
invariant-loop-change l = lines_in l.lines.items ≡ lines_in l.fn.lines.items ++ map (λ s. line_of (seen_change_of s)) (take l.change-index l.changes)
