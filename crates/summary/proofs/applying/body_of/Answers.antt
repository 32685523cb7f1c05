use Rattle.std.proofs.Common.{◌≡◌, ◌∙◌, ap, string_bytes}
use Rattle.std.proofs.lemmas.Result.{IfOk-weaker}
use Rattle.serde_json.specs.Written.{compact_text, has_float}
use Rattle.summary.specs.Apply.{summary_of}
use Rattle.summary.specs.Summary.{summed}
use Rattle.summary.proofs.Members.{summary_textual}
use Rattle.summary.proofs.applying.body_of.Goals as goal

pub returns : goal.returns
returns c =
    let d = summary_of (summed c.args.summary.now) c.args.namespace.now c.args.name.now in
    IfOk-weaker c.to_string.result _ (λ s. string_bytes s ≡ compact_text d)
    (λ s text. text (ap has_float c.in_ok-summary_of.ensures ∙ summary_textual (summed c.args.summary.now) c.args.namespace.now c.args.name.now) ∙ ap compact_text c.in_ok-summary_of.ensures)
    c.to_string.ensures.text
