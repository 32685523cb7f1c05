use Rattle.std.proofs.Common.{ℕ, List, map, take}
use Rattle.std.specs.Io.KnownBytes.{Appends}
use Rattle.scripts.specs.Output.{Prints}
use Rattle.scripts.specs.Parts.{part_seen}
use Rattle.scripts.proofs.printing.write_parts.Given as goal

abbrev pub invariant-loop-part : goal.invariant-loop-part
invariant-loop-part g l =
    (text : List ℕ) × Prints (map part_seen (take l.part-index l.parts)) text × Appends (g.W.Write.contents l.fn.writer) (g.W.Write.contents l.writer) text
