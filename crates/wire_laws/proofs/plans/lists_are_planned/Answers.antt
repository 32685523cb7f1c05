use Rattle.wire_laws.proofs.Listings.{list_refused, page_planned}
use Rattle.wire_laws.proofs.plans.lists_are_planned.Goals as goal

pub returns : goal.returns
returns c = record { pages = λ types m call t kind namespace values revision is at. page_planned types m call t kind namespace values is revision at; refusals = λ types m call t kind namespace values r is at. list_refused types m call t kind namespace values is r at }
