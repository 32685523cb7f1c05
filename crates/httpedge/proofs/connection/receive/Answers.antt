use Rattle.std.proofs.Common.{ℕ, List, refl, sym, ap, subst, ◌∙◌}
use Rattle.std.proofs.lemmas.Result.{IfOk-weaker}
use Rattle.httpedge.specs.declared.connection.Connection as conns
use Rattle.httpedge.specs.Connections.{Connection, is_waiting}
use Rattle.httpedge.specs.ConnectionViews.{Becomes, ConnectionRepresents, ReceivesRepresentedBy}
use Rattle.httpedge.specs.Effects.{unasked}
use Rattle.requests.specs.ReadBufferViews.{buffered}
use Rattle.httpedge.proofs.Making.{received_idle}
use Rattle.httpedge.proofs.Representing.{closed_waits}
use Rattle.httpedge.proofs.connection.receive.Goals as goal

pub returns-in_ok-prefix-in-Head-clause-ok : goal.returns-in_ok-prefix-in-Head-clause-ok
returns-in_ok-prefix-in-Head-clause-ok c = λ types m x represents holds.
    let is = subst (λ (d : conns.Connection). ConnectionRepresents types d x) c.in-Head.is holds in
    let api = c.receive_head.new.api in
    IfOk-weaker c.receive_head.result _ _ (λ p becomes.
    subst (λ (y : Connection). ReceivesRepresentedBy types m c.args.last_tick y y.phase c.args.bytes.now p.0 p.1 api) (sym is)
    (refl, subst (λ (b : List ℕ). Becomes types m c.args.last_tick b p.0 p.1 api) c.in_ok-prefix-in-Head.ensures becomes))
    (c.receive_head.ensures.ok types m represents)

pub returns-in_ok-prefix-in-Body-clause-ok : goal.returns-in_ok-prefix-in-Body-clause-ok
returns-in_ok-prefix-in-Body-clause-ok c = λ types m x represents holds.
    let waits = subst (λ (d : conns.Connection). ConnectionRepresents types d x) c.in-Body.is holds in
    let api = c.receive_body.new.api in
    IfOk-weaker c.receive_body.result _ _ (λ p becomes.
    subst (λ (y : Connection). ReceivesRepresentedBy types m c.args.last_tick y y.phase c.args.bytes.now p.0 p.1 api) (sym waits.0)
    (refl, subst (λ (b : List ℕ). Becomes types m c.args.last_tick b p.0 p.1 api) c.in_ok-prefix-in-Body.ensures becomes))
    (c.receive_body.ensures.ok types m (buffered c.in-Body.prefix) c.args.bytes.now represents c.in_ok-prefix-in-Body.ensures waits.1)

pub returns-in-Closed-clause-ok : goal.returns-in-Closed-clause-ok
returns-in-Closed-clause-ok c = λ types m x represents holds.
    let is = subst (λ (d : conns.Connection). ConnectionRepresents types d x) c.in-Closed.is holds in
    received_idle types m c.args.last_tick x x.phase c.args.bytes.now _ _ c.args.api.now (closed_waits x.phase is.0) is (c.unasked-in-Closed.ensures ∙ ap unasked c.none-in-Closed.ensures) represents

pub returns-in-Watch-clause-ok : goal.returns-in-Watch-clause-ok
returns-in-Watch-clause-ok c = λ types m x represents holds.
    let is = subst (λ (d : conns.Connection). ConnectionRepresents types d x) c.in-Watch.is holds in
    received_idle types m c.args.last_tick x x.phase c.args.bytes.now _ _ c.args.api.now (ap is_waiting is.0) is (c.unasked.ensures ∙ ap unasked c.none.ensures) represents

pub returns-in-Ended-clause-ok : goal.returns-in-Ended-clause-ok
returns-in-Ended-clause-ok c = λ types m x represents holds.
    let is = subst (λ (d : conns.Connection). ConnectionRepresents types d x) c.in-Ended.is holds in
    received_idle types m c.args.last_tick x x.phase c.args.bytes.now _ _ c.args.api.now (ap is_waiting is.0) is (c.unasked-in-Ended.ensures ∙ ap unasked c.none-in-Ended.ensures) represents
