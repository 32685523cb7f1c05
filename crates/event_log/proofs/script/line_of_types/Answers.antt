use Rattle.std.proofs.Common.{◌∙◌, ◌++◌, List, ℕ, ap, codes}
use Rattle.std.proofs.lemmas.Result.{IfOk-weaker}
use Rattle.event_log.proofs.script.line_of_types.Goals as goal

pub returns : goal.returns
returns c = λ plain. IfOk-weaker c.format.result _ _ (λ s e. e ∙ ap (λ (t : List ℕ). codes "{\"types\":" ++ (t ++ codes "}\n")) (c.in_ok-text.ensures.text plain)) c.format.ensures.ok
