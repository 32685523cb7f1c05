use Rattle.watchline.proofs.Onward.{left_in_order, send_in_order}
use Rattle.watchline.proofs.laws.turns_send_in_order.Goals as goal

pub returns-clause-lines : goal.returns-clause-lines
returns-clause-lines c = send_in_order

pub returns-clause-left : goal.returns-clause-left
returns-clause-left c = left_in_order
