use Rattle.reflector.proofs.RelistReasons.{gave_up, gives_up, none_while_awaiting_reply}
use Rattle.reflector.proofs.laws.relist_reasons_are_exact.Goals as goal

pub returns : goal.returns
returns c = record { gives_up = λ wanted cl x awaiting_reply. gives_up cl awaiting_reply wanted x; gave_up = λ wanted cl x awaiting_reply. gave_up cl awaiting_reply wanted x; none_yet = none_while_awaiting_reply }
