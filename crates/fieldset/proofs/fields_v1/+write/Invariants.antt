use Rattle.std.proofs.Common.{◌*◌, ◌+◌, drop}
use Rattle.pathmap.specs.Levels.{height}
use Rattle.pathmap.specs.Maps.{contents_in}
use Rattle.schema.specs.Shape.{shape}
use Rattle.serde_json.specs.Data.{object}
use Rattle.fieldset.specs.Below.{members_under}
use Rattle.json_texts.proofs.Appended.{AreLeft}
use Rattle.fieldset.proofs.Walks.{each_child}
use Rattle.fieldset.proofs.fields_v1.+write.Given as goal

-- what is there with what is left is all
abbrev pub invariant-write_members-loop-name : goal.invariant-write_members-loop-name
invariant-write_members-loop-name l =
    AreLeft (each_child (members_under (shape l.schema)) (contents_in (drop l.name-index l.name-items))) l.out (object (each_child (members_under (shape l.schema)) (contents_in l.name-items))) l.fn.out

abbrev pub decreases-write_object : goal.decreases-write_object
decreases-write_object l = 2 * height l.map.now + 1

abbrev pub decreases-write_members : goal.decreases-write_members
decreases-write_members l = 2 * height l.map.now
