use Rattle.std.proofs.Common.{◌∙◌, ◌++◌, List, ℕ, ap, codes}
use Rattle.std.specs.Fmt.{decimal}
use Rattle.std.proofs.lemmas.Result.{IfOk-weaker}
use Rattle.scripts.proofs.answer_text.refused_line.Goals as goal

pub returns : goal.returns
returns c =
    IfOk-weaker c.format-2.result _ _ (λ s e. (c.as_str.result.now, e ∙ ap (λ (t : List ℕ). codes "{\"done\":" ++ (decimal c.args.number ++ (codes ",\"refused\":" ++ (t ++ codes "}\n")))) c.in_ok-why-2.ensures)) c.format-2.ensures.ok
