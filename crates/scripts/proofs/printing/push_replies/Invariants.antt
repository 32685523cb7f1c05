use Rattle.std.proofs.Common.{◌≡◌, ◌++◌, ℕ, List, map, take}
use Rattle.world.specs.Views.{reply_seen}
use Rattle.scripts.specs.Output.{replies_in}
use Rattle.scripts.specs.Parts.{IsSetOf, part_seen}
use Rattle.scripts.proofs.printing.push_replies.Given as goal

abbrev pub invariant-loop-entry : goal.invariant-loop-entry
invariant-loop-entry l = (ids : List ℕ) → IsSetOf l.requested ids → map part_seen l.parts.items ≡ map part_seen l.fn.parts.items ++ replies_in ids (map reply_seen (take l.entry-index l.written))
