use Rattle.watchline.proofs.Coming.{by_view}
use Rattle.watchline.proofs.laws.watches_by_views.Goals as goal

pub returns : goal.returns
returns c = by_view
