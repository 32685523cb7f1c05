use Rattle.wireclient.proofs.Determined.{items_once, represents_once}
use Rattle.wireclient.proofs.laws.one_reading.Goals as goal

pub returns : goal.returns
returns c = record { items = items_once; readers = represents_once }
