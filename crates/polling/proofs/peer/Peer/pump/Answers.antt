use Rattle.std.proofs.Common.{refl}
use Rattle.httpedge.specs.Steps.{pumps}
use Rattle.polling.specs.Happens.{IsUnaskedOn}
use Rattle.polling.proofs.Leading.{reaches_none, reaches_then, sends_unasked, unasked_on}
use Rattle.polling.proofs.peer.Peer.pump.Goals as goal

pub returns-then-self : goal.returns-then-self
returns-then-self g c = reaches_none (IsUnaskedOn c.args.id) _

pub returns-then-not-is_empty : goal.returns-then-not-is_empty
returns-then-not-is_empty g c = sends_unasked _ _ _ _ c.flush.ensures.3

pub returns : goal.returns
returns g c =
    reaches_then (IsUnaskedOn c.args.id) _ _ _ (unasked_on _ _ _ (pumps c.args.id c.min-lines.result) c.step-done.ensures.hands (λ other isnt. isnt) refl)
    (sends_unasked _ _ _ _ c.flush-2.ensures.3)
