use Rattle.std.proofs.Common.{◌∙◌, ◌∷◌, ◌++◌, List, ℕ, ap, codes, sym}
use Rattle.std.specs.Fmt.{decimal}
use Rattle.std.proofs.lemmas.Result.{IfOk-weaker}
use Rattle.scripts.specs.Piped.{out_text}
use Rattle.scripts.proofs.Pushed.{text_shown, digits_shown}
use Rattle.scripts.proofs.answer_text.written_line.Goals as goal

pub returns-in_ok-text-in-Ok : goal.returns-in_ok-text-in-Ok
returns-in_ok-text-in-Ok c =
    let text = c.in-Ok.text.now in
    IfOk-weaker c.format.result _ _ (λ s e. e ∙ ap (λ (t : List ℕ). codes "{\"out\":[" ++ (decimal c.args.id ++ (44 ∷ (t ++ codes "]}\n")))) c.in_ok-text-in-Ok.ensures ∙ ap (out_text c.args.id) c.in-Ok.ensures.cases.0 ∙ sym (text_shown c.args.id c.args.bytes.now c.in-Ok.ensures.cases.1)) c.format.ensures.ok

pub returns-in_ok-digits-in-Err : goal.returns-in_ok-digits-in-Err
returns-in_ok-digits-in-Err c =
    IfOk-weaker c.format-in-Err.result _ _ (λ s e. e ∙ ap (λ (t : List ℕ). codes "{\"bytes\":[" ++ (decimal c.args.id ++ (codes ",\"" ++ (t ++ codes "\"]}\n")))) c.in_ok-digits-in-Err.ensures ∙ sym (digits_shown c.args.id c.args.bytes.now c.in-Err.ensures.cases.0)) c.format-in-Err.ensures.ok
