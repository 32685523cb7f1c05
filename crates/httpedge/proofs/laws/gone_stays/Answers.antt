use Rattle.httpedge.proofs.Going.{goes_stay, silent}
use Rattle.httpedge.proofs.laws.gone_stays.Goals as goal

pub returns : goal.returns
returns c = record { stays = goes_stay; silent = silent }
