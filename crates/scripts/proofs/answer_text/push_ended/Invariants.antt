use Rattle.std.proofs.Common.{◌≡◌, ◌++◌, drop, map}
use Rattle.std.specs.List.{flat_map}
use Rattle.scripts.specs.Piped.{ended, part_text}
use Rattle.scripts.proofs.answer_text.push_ended.Given as goal

abbrev pub invariant-loop-id : goal.invariant-loop-id
invariant-loop-id l = l.text.items ++ flat_map part_text (map ended (drop l.id-index l.ids)) ≡ l.fn.text.items ++ flat_map part_text (map ended l.ids)
