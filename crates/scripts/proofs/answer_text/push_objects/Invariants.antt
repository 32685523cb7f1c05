use Rattle.std.proofs.Common.{◌≡◌, ◌++◌, drop, map}
use Rattle.std.specs.List.{flat_map}
use Rattle.indexer.specs.Objects.{shared_of}
use Rattle.scripts.specs.Piped.{holds, part_text}
use Rattle.scripts.proofs.answer_text.push_objects.Given as goal

abbrev pub invariant-loop-object : goal.invariant-loop-object
invariant-loop-object l = l.text.items ++ flat_map part_text (map holds (map shared_of (drop l.object-index l.objects))) ≡ l.fn.text.items ++ flat_map part_text (map holds (map shared_of l.objects))
