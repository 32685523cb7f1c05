-- What an apply answers.
use Rattle.std.specs.Prelude.{◌≡◌, Bool, true, false, map}
use Rattle.std.specs.declared.result.Result.{Result}
use Rattle.std.specs.declared.result.Result.TheVariants.{Ok, Err}
use Rattle.pathmap.specs.Contents.{Content}
use Rattle.objects.specs.Owners.{Manager}
use Rattle.objects.specs.Managers.{manager_view}
use Rattle.ownership.specs.Apply as def
use Rattle.objects.specs.State.{State}
use Rattle.ownership.specs.Apply.{conflicts, applied, is_refused}
use Rattle.objects.specs.Views.{state_of}
use Rattle.ownership.specs.declared.conflict.ApplyFault.{ApplyFault}
use Rattle.ownership.specs.declared.conflict.ApplyFault.TheVariants.{Conflicts, Memory}
use Rattle.ownership.specs.declared.conflict.Conflict.{Conflict}
use Rattle.objects.specs.declared.owned.Owned.{Owned}

abbrev pub conflict_of : Conflict → def.Conflict
conflict_of c = (c.path, manager_view c.manager)

-- Ok with the new state, where there is no conflict or force; all conflicts, where there are some and no force; or out of memory
abbrev pub Applies : State → Content → Manager → Bool → Result Owned ApplyFault → Type 0
Applies live body m force (Ok o) = (is_refused (conflicts live body m) force ≡ false) × (state_of o ≡ applied live body m)
Applies live body m force (Err (Conflicts cs)) = (is_refused (conflicts live body m) force ≡ true) × (map conflict_of cs.items ≡ conflicts live body m)
Applies live body m force (Err Memory) = Unit {0}
