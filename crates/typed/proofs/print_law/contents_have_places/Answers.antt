use Rattle.typed.proofs.Places.{places}
use Rattle.typed.proofs.print_law.contents_have_places.Goals as goal

pub returns : goal.returns
returns c = places
