use Rattle.wire_laws.proofs.Listings.{watch_expired, watch_opens}
use Rattle.wire_laws.proofs.plans.watches_are_planned.Goals as goal

pub returns : goal.returns
returns c = record { opens = watch_opens; expired = watch_expired }
