use Rattle.std.proofs.Common.{rules, Some, true, refl, sym, ap, subst, ◌∙◌}
use Rattle.std.specs.Prelude.{is_some}
use Rattle.httpedge.specs.Connections.{with_taken}
use Rattle.httpedge.specs.ConnectionViews.{ConnectionRepresents}
use Rattle.httpedge.specs.declared.connection.Connection as conns
use Rattle.httpedge.proofs.Forgetting.{becomes_at, closes_none, found_held, none_some, some_of, takes_passed, with_held}
use Rattle.httpedge.proofs.connections.Connections.take.Goals as goal

pub returns-in-None-clause-known : goal.returns-in-None-clause-known
returns-in-None-clause-known c = λ types d x at holds.
    let self = c.args.self.now in
    takes_passed types c.args.id c.args.n d x self _ (sym c.in-None.ensures.value)
    (ap (with_held self) c.get_mut.follows.holds-at-none) at holds

pub returns-in-None-clause-unknown : goal.returns-in-None-clause-unknown
returns-in-None-clause-unknown c = λ none.
    let self = c.args.self.now in
    ap (with_held self) c.get_mut.follows.holds-at-none

pub returns-in-Some-clause-known : goal.returns-in-Some-clause-known
returns-in-Some-clause-known c = λ types d x at holds.
    let self = c.args.self.now in
    let id = c.args.id in
    let new = c.take_from.new.connection in
    let same = some_of (sym at.0 ∙ found_held self id (Some c.in-Some.connection.now) (sym c.in-Some.ensures.value)) in
    let taken = c.take_from.ensures types x (subst (λ (e : conns.Connection). ConnectionRepresents types e x) same holds) in
    let mid = with_held self (c.get_mut.follows.lender new) in
    becomes_at types true (with_taken x c.args.n) id self mid c.forget.new.self (c.get_mut.follows.lender new) new taken (ap is_some (sym c.in-Some.ensures.value)) at.2
    ((c.get_mut.follows.holds new).3 (search rules)).0 refl refl refl refl (closes_none id self) (λ there apart. c.forget.ensures new there (sym c.had_ended_if_over-had_ended.ensures) apart)

pub returns-in-Some-clause-unknown : goal.returns-in-Some-clause-unknown
returns-in-Some-clause-unknown c = λ none. absurd (none_some (sym none ∙ found_held c.args.self.now c.args.id (Some c.in-Some.connection.now) (sym c.in-Some.ensures.value)))
