use Rattle.std.proofs.Common.{◌≡◌, ◌∙◌, [], subst, sym, append-nil}
use Rattle.std.specs.Prelude.{option_map}
use Rattle.std.proofs.lemmas.Result.{IfOk-weaker}
use Rattle.scripts.specs.Asking.{asked_of, question_seen}
use Rattle.scripts.proofs.Questions.{asked_nothing, other_asked, other_bad}
use Rattle.scripts.proofs.answering.answer_to_other.Goals as goal

pub returns-in_default : goal.returns-in_default
returns-in_default c = λ task w represents.
    let n = c.args.events in
    let line = c.args.line.now in
    IfOk-weaker c.bad_line.result _ _ (λ v told. (told.0, told.1 ∙ other_bad n w line told.0 (asked_nothing line c.in_default.ensures.cases.0))) c.bad_line.ensures

pub returns-in-Some : goal.returns-in-Some
returns-in-Some c = λ task w represents.
    let n = c.args.events in
    let line = c.args.line.now in
    let text = c.in-Ok.text.now in
    let is = subst (λ o. option_map question_seen o ≡ asked_of text) c.in-Some.is c.in_ok-question.ensures in
    IfOk-weaker c.answer_to_question.result _ _ (λ v told. ([], told ∙ other_asked n w line [] text _ c.in-Ok.ensures.cases.1 c.in-Ok.ensures.cases.0 is)) (c.answer_to_question.ensures task w represents)

pub returns-in-None : goal.returns-in-None
returns-in-None c = λ task w represents.
    let n = c.args.events in
    let line = c.args.line.now in
    let text = c.in-Ok.text.now in
    let is = subst (λ o. option_map question_seen o ≡ asked_of text) c.in-None.is c.in_ok-question.ensures in
    IfOk-weaker c.bad_line-in-None.result _ _ (λ v told. (told.0, told.1 ∙ sym (append-nil _) ∙ other_asked n w line told.0 text _ c.in-Ok.ensures.cases.1 c.in-Ok.ensures.cases.0 is)) c.bad_line-in-None.ensures
