use Rattle.std.proofs.Common.{◌∙◌, ◌++◌, List, ℕ, ap₂, codes}
use Rattle.std.specs.Fmt.{decimal}
use Rattle.std.proofs.lemmas.Result.{IfOk-weaker}
use Rattle.scripts.proofs.answer_text.report_line.Goals as goal

pub returns : goal.returns
returns c =
    let r = c.args.report.now in
    IfOk-weaker c.format.result _ _ (λ s e. e ∙ ap₂ (λ (k : ℕ) (t : List ℕ). codes "{\"report\":{\"event\":" ++ (decimal r.event ++ (codes ",\"revision\":" ++ (decimal r.revision ++ (codes ",\"objects\":" ++ (decimal k ++ (codes ",\"counts\":" ++ (t ++ codes "}}\n")))))))) (c.len-objects.ensures ∙ r.objects.ok.0) c.in_ok-counts.ensures) c.format.ensures.ok
