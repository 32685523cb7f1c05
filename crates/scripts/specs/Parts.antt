-- What the printing's values say, without where they lie in memory.
use Rattle.std.specs.Prelude.{◌≡◌, ℕ, List, ⊤}
use Rattle.std.specs.BTreeSet.{BTreeSet, contains}
use Rattle.std.specs.Ordering.{nat_cmp}
use Rattle.scripts.specs.Output as output
use Rattle.scripts.specs.declared.printing.Part as parts
use Rattle.scripts.specs.declared.printing.Part.TheVariants as part
use Rattle.scripts.specs.declared.replay_fault.ReplayFault.{ReplayFault}
use Rattle.scripts.specs.declared.replay_fault.ReplayFault.TheVariants.{Memory, Write}

abbrev pub part_seen : parts.Part → output.Part
part_seen (part.Reply bytes) = output.replied bytes.now
part_seen (part.Connection id bytes) = output.connected id bytes.now
part_seen (part.Report r) = output.reported r.now

-- the set has just these numbers
abbrev pub IsSetOf : BTreeSet ℕ → List ℕ → Type 0
IsSetOf s ids = (id : ℕ) → contains nat_cmp s id ≡ output.is_one_of ids id

-- what printing fails by
abbrev pub IsOfOutput : ReplayFault → Type 0
IsOfOutput Memory = ⊤
IsOfOutput (Write e) = ⊤
IsOfOutput _ = ⊥
