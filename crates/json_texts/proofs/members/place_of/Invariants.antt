use Rattle.std.proofs.Common.{drop}
use Rattle.json.specs.Value.{members_view}
use Rattle.json_texts.specs.Places.{place_of}
use Rattle.json_texts.proofs.Places.{IsSearchedTo}
use Rattle.json_texts.proofs.members.place_of.Given as goal

abbrev pub invariant-loop-place : goal.invariant-loop-place
invariant-loop-place l = IsSearchedTo l.name l.place (drop l.place l.members) (place_of l.name (members_view l.members))
