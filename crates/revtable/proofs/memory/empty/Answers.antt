use Rattle.std.proofs.Common.{refl}
use Rattle.revtable.proofs.Files.{always_clean, opens_empty}
use Rattle.revtable.proofs.memory.empty.Goals as goal

pub returns-in-Ok : goal.returns-in-Ok
returns-in-Ok c =
    let clean = always_clean (λ _. refl) c.in-Ok.base in
    opens_empty _ c.in-Ok.base c.new-2.ensures (c.in-Ok.ensures.opened clean) (c.in-Ok.ensures.found clean)
