use Rattle.std.proofs.Common.{map}
use Rattle.serde_json.specs.View.{members_view}
use Rattle.schema.specs.Among.{is_in}
use Rattle.typed.proofs.LeftOut.{AreCopiedSoFar}
use Rattle.typed.proofs.omitted.copy_members_but.Given as goal

abbrev pub invariant-loop-name : goal.invariant-loop-name
invariant-loop-name l = AreCopiedSoFar (is_in (map (λ n. n.now) l.names)) (λ k d. d) (members_view l.members.entries) (members_view l.left.entries) l.name-iterator
