use Rattle.std.proofs.Common.{◌≡◌, ◌++◌, drop}
use Rattle.std.specs.List.{flat_map}
use Rattle.watchline.specs.Views.{lines_in}
use Rattle.requests.specs.ReplyBytes.{chunk}
use Rattle.requests.proofs.watch_chunks.chunks.Given as goal

abbrev pub invariant-loop-line : goal.invariant-loop-line
invariant-loop-line l = l.bytes.items ++ flat_map chunk (lines_in (drop l.line-index l.lines)) ≡ flat_map chunk (lines_in l.lines)
