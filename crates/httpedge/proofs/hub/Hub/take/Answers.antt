use Rattle.std.proofs.Common.{refl, sym, ◌∙◌}
use Rattle.httpedge.specs.Runs.{takes}
use Rattle.httpedge.specs.Steps.{with_bytes_taken}
use Rattle.httpedge.proofs.Ended.{runs_on}
use Rattle.httpedge.proofs.Representing.{takes_well}
use Rattle.httpedge.proofs.hub.Hub.take.Goals as goal

pub returns-clause-takes : goal.returns-clause-takes
returns-clause-takes c = λ s is.
    let self = c.args.self.now in
    let taken = takes_well s c.args.id c.args.n self.shared self.connections c.take.new.self is.0 (c.take.ensures.known s.types) c.take.ensures.unknown in
    (taken.0, is.1 ∙ sym taken.1)

pub returns-clause-runs : goal.returns-clause-runs
returns-clause-runs c = λ r s before ran is. runs_on r s (with_bytes_taken s c.args.id c.args.n) before (takes c.args.id c.args.n) ran refl
