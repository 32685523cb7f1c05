use Rattle.requests.proofs.Deciding.{asks_more, asks_one}
use Rattle.requests.proofs.laws.one_asked.Goals as goal

pub returns : goal.returns
returns c = record { one = asks_one; stays = asks_more }
