-- What is a content with owners of its paths stays one.
use Rattle.pathmap.specs.Contents.{Content, over, dom}
use Rattle.pathmap.specs.Beside.{changed}
use Rattle.schema.specs.Shape.{Shape}
use Rattle.typed.specs.Fitting.{IsContent}
use Rattle.typed.proofs.Keeping.{over_content, without_content}
use Rattle.objects.specs.Owners.{Manager}
use Rattle.objects.specs.State.{State}
use Rattle.ownership.specs.Apply.{applied, dropped}
use Rattle.objects.specs.WellTyped.{IsWellTypedState}
use Rattle.ownership.specs.Update.{updated}
use Rattle.ownership.proofs.Changing.{updated_stand}
use Rattle.ownership.proofs.Keeping.{owned_stand}
use Rattle.objects.proofs.Taking.{taken_have_paths}

pub applied_well_typed : (live : State) (body : Content) (m : Manager) (s : Shape) → IsContent s body → IsWellTypedState s live → IsWellTypedState s (applied live body m)
unfolding applied
applied_well_typed live body m s content well_typed = (
  without_content s (over body live.content) (dropped live body m) (over_content s body live.content content well_typed.0),
  (taken_have_paths live.owners m (changed body live.content) (dom body), owned_stand live body m well_typed.1.1),
)

pub updated_well_typed : (live : State) (new : Content) (m : Manager) (s : Shape) → IsContent s new → IsWellTypedState s live → IsWellTypedState s (updated live new m)
unfolding updated
updated_well_typed live new m s content well_typed = (content, (taken_have_paths live.owners m _ _, updated_stand live new m well_typed.1.1))
