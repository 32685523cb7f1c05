use Rattle.std.proofs.Common.{◌≡◌, map, take}
use Rattle.history.specs.Read.{entry_of}
use Rattle.watchline.specs.Lines.{added, line_of}
use Rattle.watchline.specs.Views.{lines_in}
use Rattle.watchline.proofs.sending.object_lines.Given as goal

abbrev pub invariant-loop-object : goal.invariant-loop-object
invariant-loop-object l = lines_in l.lines.items ≡ map (λ e. line_of (added (entry_of e))) (take l.object-index l.objects)
