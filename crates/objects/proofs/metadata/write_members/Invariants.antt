use Rattle.objects.proofs.MetadataTexts.{AreWritten}
use Rattle.objects.proofs.metadata.write_members.Given as goal

-- what is left is still to be written
abbrev pub invariant-loop-name : goal.invariant-loop-name
invariant-loop-name l = AreWritten l.members.entries l.name-iterator l.fn.out l.out
