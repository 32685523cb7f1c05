use Rattle.polling.proofs.Leading.{any_none, any_same, any_then, unasked_any}
use Rattle.polling.proofs.server.Server.turn.Goals as goal

pub returns-in_err-before : goal.returns-in_err-before
returns-in_err-before g c = any_none _

pub returns-in_err-wait : goal.returns-in_err-wait
returns-in_err-wait g c = any_same _ _ c.wait.ensures

pub returns-in_err-now : goal.returns-in_err-now
returns-in_err-now g c = any_same _ _ c.wait.ensures

pub returns : goal.returns
returns g c =
    any_then _ _ _ (any_same _ _ c.wait.ensures) (any_then _ _ _ c.look_again.ensures (any_then _ _ _ c.take_reports.ensures
    (any_then _ _ _ c.accept_all.ensures (unasked_any _ _ c.settle.ensures))))
