use Rattle.std.proofs.Common.{rules, ◌≡◌, true, false, refl}
use Rattle.httpedge.specs.ConnectionViews.{is_above}
use Rattle.httpedge.proofs.Representing.{opens_refused, opens_unrefused}
use Rattle.httpedge.proofs.hub.Hub.open.Goals as goal

pub returns-in-Ok-clause-handles : goal.returns-in-Ok-clause-handles
returns-in-Ok-clause-handles c = λ s is.
    let above : is_above c.args.self.now.connections.highest c.args.id ≡ true = search rules in
    let opened = c.in-Ok.ensures.ok s is above in
    (opens_unrefused s c.args.self.now.shared c.args.self.now.connections c.args.id is.0 above, opened.0, opened.1, opened.2)

pub returns-in-Err-clause-handles : goal.returns-in-Err-clause-handles
returns-in-Err-clause-handles c = λ s is.
    let above : is_above c.args.self.now.connections.highest c.args.id ≡ true = search rules in
    ((λ q. false), s, (opens_unrefused s c.args.self.now.shared c.args.self.now.connections c.args.id is.0 above, refl, refl), c.in-Err.ensures.err s is above)

pub returns-then-not-is_above-clause-handles : goal.returns-then-not-is_above-clause-handles
returns-then-not-is_above-clause-handles c =
    let above : is_above c.args.self.now.connections.highest c.args.id ≡ false = search rules in
    (refl, λ s is. opens_refused s c.args.self.now.shared c.args.self.now.connections c.args.id is.0 above)
