use Rattle.std.proofs.Common.{sym, ap, subst, ◌∙◌}
use Rattle.httpedge.specs.Effects.{Does, effect_on}
use Rattle.httpedge.specs.Steps.{opens}
use Rattle.httpedge.proofs.Representing.{opens_fresh, opens_well, same_in}
use Rattle.httpedge.proofs.Results.{on_err}
use Rattle.httpedge.proofs.hub.Hub.open_above.Goals as goal

pub returns-clause-ok : goal.returns-clause-ok
returns-clause-ok c = λ s is above.
    let self = c.args.self.now in
    let count = c.open_count.ensures self.shared s is.0 in
    let opened = c.in_ok-opened.ensures in
    let done = opens_well s c.args.id self.shared self.connections c.open.new.self c.in_ok-opened.opened.0 c.in_ok-opened.opened.1 is.0 above (opened.represents s.types s.connections count) (opened.did s.connections count)
    (c.in_ok-open.ensures.ok (opens_fresh s c.args.id self.shared self.connections is.0 above)) in
    (done.0, subst (Does s (opens c.args.id) done.0) (sym (c.of.ensures ∙ ap (effect_on c.args.id) c.unasked.ensures)) done.1, (done.2, is.1 ∙ sym done.3))

pub returns-in_err-open-clause-err : goal.returns-in_err-open-clause-err
returns-in_err-open-clause-err c = λ s is above.
    let self = c.args.self.now in
    on_err c.from_residual-in_err-open.result (same_in s self.shared self.connections c.open.new.self is.0 (c.in_err-open.ensures.err (opens_fresh s c.args.id self.shared self.connections is.0 above)), is.1)
