use Rattle.serde_json.specs.View.{members_view}
use Rattle.schema.specs.Among.{is_in}
use Rattle.typed.specs.Without.{kept, omitted_of}
use Rattle.typed.proofs.LeftOut.{AreCopiedSoFar}
use Rattle.typed.proofs.omitted.copy_members.Given as goal

abbrev pub invariant-loop-name : goal.invariant-loop-name
invariant-loop-name l = AreCopiedSoFar (is_in (omitted_of l.omitted).names) (kept (omitted_of l.omitted)) (members_view l.members.entries) (members_view l.left.entries) l.name-iterator
