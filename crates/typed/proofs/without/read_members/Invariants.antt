use Rattle.serde_json.specs.View.{members_view}
use Rattle.pathmap.specs.Maps.{content}
use Rattle.schema.specs.Among.{is_in}
use Rattle.schema.specs.Shape.{fields_in}
use Rattle.typed.specs.Reading.{content_of_field}
use Rattle.typed.specs.Without.{kept, omitted_of}
use Rattle.typed.proofs.LeftOut.{AreReadSoFar}
use Rattle.typed.proofs.without.read_members.Given as goal

abbrev pub invariant-loop-name : goal.invariant-loop-name
invariant-loop-name l = AreReadSoFar (is_in (omitted_of l.omitted).names) (kept (omitted_of l.omitted)) (λ k e. content_of_field (fields_in l.fields) k e) (members_view l.members.entries) (content l.map) l.name-iterator
