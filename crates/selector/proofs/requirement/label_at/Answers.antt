use Rattle.std.proofs.Common.{◌∙◌, ap, Some}
use Rattle.std.specs.Prelude.{option_map, string_bytes}
use Rattle.selector.proofs.Labels.{value_at-entries}
use Rattle.selector.proofs.requirement.label_at.Goals as goal

pub returns-in_err-get : goal.returns-in_err-get
returns-in_err-get c =
    ap (option_map (λ v. v.now)) c.from_residual.ensures ∙ ap (option_map string_bytes) c.in_err-get.ensures.value
    ∙ value_at-entries (string_bytes c.args.key.now) c.args.labels.now.entries

pub returns : goal.returns
returns c =
    ap Some c.as_str.ensures.value ∙ ap (option_map string_bytes) c.in_ok-get.ensures.value ∙ value_at-entries (string_bytes c.args.key.now) c.args.labels.now.entries
