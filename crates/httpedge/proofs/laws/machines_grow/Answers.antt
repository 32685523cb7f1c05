use Rattle.httpedge.proofs.Adding.{changes_stay, follows_grow, runs_grow}
use Rattle.httpedge.proofs.laws.machines_grow.Goals as goal

pub returns : goal.returns
returns c = record { one = follows_grow; all = runs_grow; stays = changes_stay }
