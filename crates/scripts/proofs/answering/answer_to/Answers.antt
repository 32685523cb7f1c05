use Rattle.std.proofs.Common.{◌∙◌, [], add-one, IfErr, IfOk, inl, inr, refl, subst, sym}
use Rattle.std.proofs.lemmas.Result.{IfOk-weaker}
use Rattle.world.specs.Views.{event_seen}
use Rattle.scripts.specs.Asking.{asked_on}
use Rattle.scripts.specs.Piped.{IsBad, other_parts}
use Rattle.scripts.specs.Script.{IsEventLine}
use Rattle.scripts.proofs.Conversing.{filled_line, empty_line}
use Rattle.scripts.proofs.Questions.{other_answered}
use Rattle.scripts.proofs.answering.answer_to.Goals as goal

pub returns-then-is_empty-clause-answers : goal.returns-then-is_empty-clause-answers
returns-then-is_empty-clause-answers c = λ task w represents.
    ([], w, inl (record { empty = empty_line _ (sym c.is_empty.ensures ∙ c.if-is_empty.true); silent = refl; count = refl; same = refl }), represents, c.new.ensures.items)

pub returns-in-Ok-clause-answers : goal.returns-in-Ok-clause-answers
returns-in-Ok-clause-answers c = λ task w represents.
    IfOk-weaker c.answer_to_event.result _ _ (λ a it. (it.0, it.1, inr (inr (inr it.2)), it.3, it.4)) (c.answer_to_event.ensures.takes task c.args.events w c.args.line.now represents (add-one c.args.events)
    (subst (λ r. IfOk r (λ e. IsEventLine c.args.line.now (event_seen e))) c.in-Ok.is c.in_ok-event.ensures.event))

pub returns-in_ok-answer_to_other-in-Err-clause-answers : goal.returns-in_ok-answer_to_other-in-Err-clause-answers
returns-in_ok-answer_to_other-in-Err-clause-answers c = λ task w represents.
    let line = c.args.line.now in
    let emitted = c.in_ok-answer_to_other-in-Err.ensures task w represents in (
      other_parts c.args.events w line emitted.0,
      w,
      other_answered task c.args.events w line emitted.0 (asked_on line) refl (filled_line _ (sym c.is_empty.ensures ∙ c.if-is_empty.false))
          (subst (λ r. IfErr r (λ _. IsBad line)) c.in-Err.is c.in_ok-event.ensures.bad),
      represents,
      emitted.1,
    )
