use Rattle.std.proofs.Common.{ℕ, List, ap, ap₂, ◌∙◌}
use Rattle.std.specs.Prelude.{option_map}
use Rattle.std.proofs.lemmas.Result.{IfOk-weaker}
use Rattle.serde_json.specs.Written.{compact_text, has_float}
use Rattle.requests.specs.KeptReplies.{reply_by}
use Rattle.requests.proofs.Saying.{status_plain}
use Rattle.requests.proofs.answering.refusal_reply_by.Goals as goal

pub returns : goal.returns
returns c =
    let stated = c.in_ok-status.ensures in
    let plain = ap has_float stated ∙ status_plain c.args.denied.reason c.args.denied.message.now in
    IfOk-weaker c.reply_bytes_by.result _ _ (λ v e. e ∙ ap₂ (λ (code : ℕ) (text : List ℕ). reply_by c.args.persistence code (option_map (λ s. s.now) c.args.denied.allow) text) c.code.ensures
    (c.as_str.ensures.value ∙ c.in_ok-text.ensures.text plain ∙ ap compact_text stated)) c.reply_bytes_by.ensures
