use Rattle.requests.proofs.RequestSizes.{size_asks, size_came, size_one, size_stays}
use Rattle.requests.proofs.laws.one_size.Goals as goal

pub returns : goal.returns
returns c = record { one = size_one; stays = size_stays; asks = size_asks; came = size_came }
