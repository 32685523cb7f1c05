use Rattle.std.proofs.Common.{rules, Bool, Some, refl, sym, ap, subst, ◌∙◌}
use Rattle.std.specs.Prelude.{is_some}
use Rattle.httpedge.specs.ChangeViews.{MakesRepresented}
use Rattle.httpedge.specs.Connections.{ended, is_open, with_phase}
use Rattle.httpedge.specs.ConnectionViews.{OpenIdsAfter, ConnectionRepresents}
use Rattle.httpedge.specs.declared.connection.Connection as conns
use Rattle.httpedge.proofs.Forgetting.{becomes_at, found_held, if_ok_is, on_err_is, pass_known, pass_taken, pass_unknown, some_of, with_held}
use Rattle.httpedge.proofs.Representing.{same_open}
use Rattle.httpedge.proofs.connections.Connections.change.Goals as goal

pub returns-in-None-clause-known : goal.returns-in-None-clause-known
returns-in-None-clause-known c = λ types m d x represents at holds.
    let self = c.args.self.now in
    pass_known types m c.args.last_tick c.args.what c.args.id d x self _ c.args.shared.now c.answer_unheld.result represents (sym c.in-None.ensures.value)
    (ap (with_held self) c.get_mut.follows.holds-at-none) c.answer_unheld.ensures.outcome at holds

pub returns-in-None-clause-unknown : goal.returns-in-None-clause-unknown
returns-in-None-clause-unknown c = λ none.
    let self = c.args.self.now in (
      pass_unknown self c.args.id c.answer_unheld.result (sym c.in-None.ensures.value) c.answer_unheld.ensures.outcome none,
      ap (with_held self) c.get_mut.follows.holds-at-none,
      refl,
    )

pub returns-in-None-clause-taken : goal.returns-in-None-clause-taken
returns-in-None-clause-taken c = λ known. pass_taken c.args.self.now c.args.id c.answer_unheld.result (sym c.in-None.ensures.value) c.answer_unheld.ensures.outcome known

pub returns-in-Ok-clause-known : goal.returns-in-Ok-clause-known
returns-in-Ok-clause-known c = λ types m d x represents at holds.
    let self = c.args.self.now in
    let id = c.args.id in
    let new = c.change-changed.new.connection in
    let same = some_of (sym at.0 ∙ found_held self id (Some c.in-Some.connection.now) (sym c.in-Some.ensures.value)) in
    let made = if_ok_is (λ did. MakesRepresented types m c.args.last_tick c.args.what x new did c.change-changed.new.shared) c.change-changed.result _ c.in-Ok.is (c.change-changed.ensures.ok types m x represents (subst (λ (e : conns.Connection). ConnectionRepresents types e x) same holds)) in
    let still = c.is_open-still_open.ensures ∙ same_open types new made.0 made.2 in (
      made.0,
      c.in-Ok.done,
      made.1,
      c.of.ensures,
      becomes_at types (is_open made.0.phase) made.0 id self c.close.new.self c.forget.new.self (c.get_mut.follows.lender new) new made.2 (ap is_some (sym c.in-Some.ensures.value)) at.2
          ((c.get_mut.follows.holds new).3 (search rules)).0 c.close.ensures.held c.close.ensures.ended c.close.ensures.cut c.close.ensures.highest
          (subst (λ (b : Bool). OpenIdsAfter id b self c.close.new.self) still c.close.ensures.closes)
          (λ there apart. c.forget.ensures new there (sym c.had_ended_if_over-had_ended.ensures) apart),
    )

pub returns-in-Err-clause-known : goal.returns-in-Err-clause-known
returns-in-Err-clause-known c = λ types m d x represents at holds.
    let self = c.args.self.now in
    let id = c.args.id in
    let new = c.change-changed.new.connection in
    let same = some_of (sym at.0 ∙ found_held self id (Some c.in-Some.connection.now) (sym c.in-Some.ensures.value)) in
    let holds' = subst (λ (e : conns.Connection). ConnectionRepresents types e x) same holds in
    let killed = on_err_is c.change-changed.result _ c.in-Err.is (c.change-changed.ensures.killed types x holds') in
    let still = c.is_open-still_open.ensures ∙ same_open types new (with_phase x ended) killed in (
      on_err_is c.change-changed.result _ c.in-Err.is (c.change-changed.ensures.could types x holds'),
      on_err_is c.change-changed.result _ c.in-Err.is (c.change-changed.ensures.err types m represents),
      becomes_at types _ (with_phase x ended) id self c.close.new.self c.forget.new.self (c.get_mut.follows.lender new) new killed (ap is_some (sym c.in-Some.ensures.value)) at.2
          ((c.get_mut.follows.holds new).3 (search rules)).0 c.close.ensures.held c.close.ensures.ended c.close.ensures.cut c.close.ensures.highest
          (subst (λ (b : Bool). OpenIdsAfter id b self c.close.new.self) still c.close.ensures.closes)
          (λ there apart. c.forget.ensures new there (sym c.had_ended_if_over-had_ended.ensures) apart),
    )
