use Rattle.std.proofs.Common.{◌≡◌, ◌∙◌, ap, string_bytes}
use Rattle.std.specs.FinMap as fin
use Rattle.std.proofs.lemmas.Result.{IfOk-weaker}
use Rattle.serde_json.specs.Data.{object}
use Rattle.serde_json.specs.Written.{compact_text, has_float}
use Rattle.serde_json.proofs.Views.{view-Object}
use Rattle.summary.specs.Apply.{count_members}
use Rattle.summary.specs.Summary.{counts_in}
use Rattle.scripts.proofs.OutputLemmas.{no_floats}
use Rattle.scripts.proofs.printing.counts_text.Goals as goal

pub returns : goal.returns
returns c =
    let es = fin.entries (counts_in c.args.counts.now) in
    let d = object (count_members es) in
    let is = view-Object c.in_ok-count_members.field-0 ∙ ap object c.in_ok-count_members.ensures in
    IfOk-weaker c.to_string.result _ (λ s. string_bytes s ≡ compact_text d) (λ s text. text (ap has_float is ∙ no_floats es) ∙ ap compact_text is) c.to_string.ensures.text
