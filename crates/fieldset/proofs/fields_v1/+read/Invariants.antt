use Rattle.std.proofs.Common.{suc, ◌*◌, drop, length}
use Rattle.json.specs.Tree.{json_tokens, members_tokens}
use Rattle.json.specs.Value.{members_view, value_view}
use Rattle.pathmap.specs.Maps.{content}
use Rattle.schema.specs.TypeRefs.{type_ref}
use Rattle.fieldset.specs.FieldsV1.{read_members}
use Rattle.fieldset.proofs.Lent.{data_in}
use Rattle.fieldset.proofs.Taking.{IsSoFar}
use Rattle.fieldset.proofs.fields_v1.+read.Given as goal

abbrev pub invariant-read_members-loop-name : goal.invariant-read_members-loop-name
invariant-read_members-loop-name l =
    let ms = data_in l.members in
    IsSoFar (type_ref l.here) ms (read_members (type_ref l.here) ms ms) (content l.map) (data_in (drop l.name-index l.members))

abbrev pub decreases-read_member : goal.decreases-read_member
decreases-read_member l = suc (2 * length (json_tokens (value_view l.value.now)))

abbrev pub decreases-read_members : goal.decreases-read_members
decreases-read_members l = 2 * length (members_tokens (members_view l.members.now))

abbrev pub decreases-read_at : goal.decreases-read_at
decreases-read_at l = 2 * length (json_tokens (value_view l.value.now))
