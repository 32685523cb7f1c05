use Rattle.std.proofs.Common.{ℕ, List, None, sym, ap, ◌∙◌}
use Rattle.std.specs.Prelude.{option_map}
use Rattle.std.proofs.lemmas.Result.{IfOk-weaker}
use Rattle.answers.specs.Views.{watch_from}
use Rattle.api_request.specs.Views.{answer_of}
use Rattle.requests.specs.KeptReplies.{answer_bytes_by, reply_by}
use Rattle.requests.proofs.answering.answer_bytes_by.Goals as goal

pub returns-in-None : goal.returns-in-None
returns-in-None c =
    IfOk-weaker c.reply_bytes_by.result _ _ (λ v e. e ∙ ap (λ (text : List ℕ). reply_by c.args.persistence c.args.answer.now.status None text) c.as_str.ensures.value
    ∙ ap (λ o. answer_bytes_by c.args.persistence (answer_of c.args.answer.now) (option_map watch_from o)) (sym c.in-None.is)) c.reply_bytes_by.ensures
