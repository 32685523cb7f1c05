use Rattle.serde_json.specs.View.{members_view}
use Rattle.pathmap.specs.Maps.{content}
use Rattle.schema.specs.TypeRefs.{type_ref}
use Rattle.fieldset.specs.FieldsV1.{read_members}
use Rattle.fieldset.proofs.Taking.{IsSoFar}
use Rattle.fieldset.proofs.values.+read.Given as goal

abbrev pub invariant-read_members-loop-name : goal.invariant-read_members-loop-name
invariant-read_members-loop-name l =
    let ms = members_view l.members.entries in
    IsSoFar (type_ref l.here) ms (read_members (type_ref l.here) ms ms) (content l.map) (members_view l.name-iterator)
