use Rattle.std.proofs.Common.{◌≡◌, ◌++◌, drop, map}
use Rattle.std.specs.List.{flat_map}
use Rattle.world.specs.Views.{reply_seen}
use Rattle.scripts.specs.Piped.{part_text, written_part}
use Rattle.scripts.proofs.answer_text.push_written.Given as goal

abbrev pub invariant-loop-entry : goal.invariant-loop-entry
invariant-loop-entry l = l.text.items ++ flat_map part_text (map written_part (map reply_seen (drop l.entry-index l.written))) ≡ l.fn.text.items ++ flat_map part_text (map written_part (map reply_seen l.written))
