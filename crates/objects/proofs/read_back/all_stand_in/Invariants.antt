use Rattle.std.proofs.Common.{◌≡◌, drop}
use Rattle.pathmap.specs.Contents.{dom}
use Rattle.objects.specs.Managers.{pairs}
use Rattle.objects.specs.Parts.{all_within}
use Rattle.objects.proofs.read_back.all_stand_in.Given as goal

abbrev pub invariant-loop-entry : goal.invariant-loop-entry
invariant-loop-entry l = all_within (dom l.tree) (pairs (drop l.entry-index l.entries)) ≡ all_within (dom l.tree) (pairs l.entries)
