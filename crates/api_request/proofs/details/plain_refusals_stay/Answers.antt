use Rattle.api_request.proofs.Checks.{plain_refusals_stay}
use Rattle.api_request.proofs.details.plain_refusals_stay.Goals as goal

pub returns : goal.returns
returns c = plain_refusals_stay
