use Rattle.std.proofs.Common.{◌∙◌, ◌∷◌, ◌++◌, List, ℕ, ap, codes, sym}
use Rattle.std.specs.Fmt.{decimal}
use Rattle.std.proofs.lemmas.Result.{IfOk-weaker}
use Rattle.event_log.specs.ScriptLines.{text_line}
use Rattle.event_log.proofs.Shown.{digits_shown, text_shown}
use Rattle.event_log.proofs.script.line_of_bytes.Goals as goal

pub returns-in_ok-text-in-Ok : goal.returns-in_ok-text-in-Ok
returns-in_ok-text-in-Ok c =
    IfOk-weaker c.format.result _ _ (λ s e. e ∙ ap (λ (t : List ℕ). codes "{\"in\":[" ++ (decimal c.args.id ++ (44 ∷ (t ++ codes "]}\n")))) c.in_ok-text-in-Ok.ensures ∙ ap (text_line c.args.id) c.in-Ok.ensures.cases.0 ∙ sym (text_shown c.args.id c.args.bytes.now c.in-Ok.ensures.cases.1)) c.format.ensures.ok

pub returns-in_ok-digits-in-Err : goal.returns-in_ok-digits-in-Err
returns-in_ok-digits-in-Err c =
    IfOk-weaker c.format-in-Err.result _ _ (λ s e. e ∙ ap (λ (t : List ℕ). codes "{\"bytes\":[" ++ (decimal c.args.id ++ (codes ",\"" ++ (t ++ codes "\"]}\n")))) c.in_ok-digits-in-Err.ensures ∙ sym (digits_shown c.args.id c.args.bytes.now c.in-Err.ensures.cases.0)) c.format-in-Err.ensures.ok
