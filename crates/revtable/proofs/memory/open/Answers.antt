use Rattle.std.proofs.Common.{refl}
use Rattle.revtable.proofs.Files.{always_clean}
use Rattle.revtable.proofs.memory.open.Goals as goal

pub new-requires-clause-clean : goal.new-requires-clause-clean
new-requires-clause-clean c = always_clean (λ _. refl)
