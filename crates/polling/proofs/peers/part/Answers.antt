use Rattle.std.proofs.Common.{refl}
use Rattle.httpedge.specs.Steps.{goes}
use Rattle.polling.specs.Happens.{IsUnaskedOn}
use Rattle.polling.proofs.Leading.{reaches_none, unasked_on}
use Rattle.polling.proofs.peers.part.Goals as goal

pub returns-then-is_empty : goal.returns-then-is_empty
returns-then-is_empty g c = reaches_none (IsUnaskedOn c.args.id) _

pub returns : goal.returns
returns g c = unasked_on _ _ _ (goes c.args.id) c.hand.ensures.hands (λ other isnt. isnt) refl
