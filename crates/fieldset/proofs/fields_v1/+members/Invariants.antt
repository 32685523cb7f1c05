use Rattle.std.proofs.Common.{◌≡◌, drop}
use Rattle.serde_json.specs.Data.{no_members}
use Rattle.serde_json.specs.View.{members_view}
use Rattle.pathmap.specs.Levels.{height}
use Rattle.pathmap.specs.Maps.{contents_in}
use Rattle.schema.specs.Shape.{shape}
use Rattle.fieldset.specs.Below.{members_under}
use Rattle.fieldset.proofs.Walks.{puts}
use Rattle.fieldset.proofs.fields_v1.+members.Given as goal

-- what is left is still to be put
abbrev pub invariant-loop-name : goal.invariant-loop-name
invariant-loop-name l = puts (members_under (shape l.schema)) (contents_in (drop l.name-index l.name-items)) (members_view l.all.entries) ≡ puts (members_under (shape l.schema)) (contents_in l.name-items) no_members

abbrev pub decreases-members : goal.decreases-members
decreases-members l = height l.map.now
