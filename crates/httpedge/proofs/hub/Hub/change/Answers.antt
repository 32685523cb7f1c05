use Rattle.httpedge.proofs.Representing.{changes_handled}
use Rattle.httpedge.proofs.hub.Hub.change.Goals as goal

pub returns-clause-handles : goal.returns-clause-handles
returns-clause-handles c = λ some.
    let reported = c.change.ensures in
    changes_handled c.args.self.now c.args.what c.args.id c.change.new.shared c.change.new.self c.change.result some reported.known reported.unknown reported.taken
