use Rattle.std.proofs.Common.{◌≡◌, true, Ok, refl, sym, ap, subst, ◌∙◌}
use Rattle.std.specs.Prelude.{IfOk, OnErr}
use Rattle.std.proofs.lemmas.Result.{IfOk-weaker}
use Rattle.httpedge.specs.declared.effect.Done.{Done}
use Rattle.httpedge.specs.Effects.{unasked}
use Rattle.httpedge.specs.declared.event.ConnectionInput as changes
use Rattle.httpedge.specs.declared.event.ConnectionInput.TheVariants as change
use Rattle.httpedge.specs.ChangeViews.{MakesRepresented, takes_memory_on}
use Rattle.httpedge.specs.Steps.{with_turn}
use Rattle.httpedge.specs.Watches.{pumped}
use Rattle.httpedge.proofs.Making.{goes_held, on_err_then, received_makes}
use Rattle.httpedge.proofs.Representing.{same_waiting, same_watching}
use Rattle.httpedge.proofs.Results.{on_err}
use Rattle.httpedge.proofs.connection.change.Goals as goal

pub returns-in-Bytes-clause-ok : goal.returns-in-Bytes-clause-ok
returns-in-Bytes-clause-ok c = λ types m x represents holds.
    let new = c.receive_on.new in
    subst (λ (w : changes.ConnectionInput). IfOk c.receive_on.result (λ did. MakesRepresented types m c.args.last_tick w x new.connection did new.shared)) (sym c.in-Bytes.is)
    (IfOk-weaker c.receive_on.result _ _ (λ did. received_makes types m c.args.last_tick x x.phase c.in-Bytes.bytes.now new.connection did new.shared c.receive_on.ensures.forgotten)
    (c.receive_on.ensures.ok types m x represents holds))

pub returns-in-Bytes-clause-could : goal.returns-in-Bytes-clause-could
returns-in-Bytes-clause-could c = λ types x holds.
    subst (λ (w : changes.ConnectionInput). OnErr c.receive_on.result (takes_memory_on w x.phase ≡ true)) (sym c.in-Bytes.is)
    (on_err_then c.receive_on.result (λ were. sym (same_waiting types c.args.connection.now x holds) ∙ were) c.receive_on.ensures.waited)

pub returns-in_ok-change-in-Lines-clause-ok : goal.returns-in_ok-change-in-Lines-clause-ok
returns-in_ok-change-in-Lines-clause-ok c = λ types m x represents holds.
    let new = c.pump_on.new in
    let turned = c.in_ok-change-in-Lines.ensures.ok types m x represents holds in
    subst (λ (w : changes.ConnectionInput). MakesRepresented types m c.args.last_tick w x new.connection c.unasked.result new.shared) (sym c.in-Lines.is)
    (with_turn (pumped m c.in-Lines.max) x, (refl, c.unasked.ensures ∙ ap unasked turned.0, c.in_ok-change-in-Lines.ensures.serves types m represents), turned.1)

pub returns-in_err-change-in-Lines-clause-could : goal.returns-in_err-change-in-Lines-clause-could
returns-in_err-change-in-Lines-clause-could c = λ types x holds.
    subst (λ (w : changes.ConnectionInput). OnErr c.from_residual.result (takes_memory_on w x.phase ≡ true)) (sym c.in-Lines.is)
    (on_err c.from_residual.result (sym (same_watching types c.args.connection.now x holds) ∙ c.in_err-change-in-Lines.ensures.watched))

pub returns-in_err-change-in-Lines-clause-err : goal.returns-in_err-change-in-Lines-clause-err
returns-in_err-change-in-Lines-clause-err c = λ types m represents. on_err c.from_residual.result (c.in_err-change-in-Lines.ensures.serves types m represents)

pub returns-in-Gone-clause-ok : goal.returns-in-Gone-clause-ok
returns-in-Gone-clause-ok c = λ types m x represents holds.
    let did = c.unasked-in-Gone.ensures ∙ ap unasked c.none.ensures in
    subst (λ (w : changes.ConnectionInput). MakesRepresented types m c.args.last_tick w x c.go_from.new.connection c.unasked-in-Gone.result c.args.shared.now) (sym c.in-Gone.is)
    (subst (λ (d : Done). MakesRepresented types m c.args.last_tick change.Gone x c.go_from.new.connection d c.args.shared.now) (sym did)
    (goes_held types m c.args.last_tick x c.args.connection.now c.go_from.new.connection c.args.shared.now represents holds (c.go_from.ensures types x)))

pub returns-in-Gone-clause-gone : goal.returns-in-Gone-clause-gone
returns-in-Gone-clause-gone c = λ is. ap (λ (d : Done). Ok d) (c.unasked-in-Gone.ensures ∙ ap unasked c.none.ensures)
