use Rattle.std.proofs.Common.{◌≡◌, codes, sym, ap, subst, string_bytes, ◌∙◌}
use Rattle.serde_json.specs.Data.{Data, string}
use Rattle.serde_json.specs.View.{view}
use Rattle.names.specs.Names.{is_label_key, is_label_value}
use Rattle.api_request.specs.Validated.{require_at}
use Rattle.api_request.specs.Views.{Returns}
use Rattle.api_validation.specs.Naming.{label_validated}
use Rattle.api_validation.proofs.Required.{required_by, required_then, view-String}
use Rattle.api_validation.proofs.naming.validate_label.Goals as goal

pub returns-in_ok-require_at-in-String : goal.returns-in_ok-require_at-in-String
returns-in_ok-require_at-in-String c =
    let r = c.require_at-in-String.result in
    let is_value = is_label_value (string_bytes c.in-String.value) in
    let seen : view c.args.member.now ≡ string (string_bytes c.in-String.value) = ap view c.in-String.is ∙ view-String c.in-String.value in
    subst (λ (d : Data). Returns (λ u. u) r (label_validated c.args.key.now d)) (sym seen)
    (required_then r c.is_label_key.result (is_label_key c.args.key.now) (codes "metadata.labels") (codes "bad key") c.in_ok-require_at-in-String.field-0
    (require_at is_value (codes "metadata.labels") (codes "bad value")) c.is_label_key.ensures c.in_ok-require_at-in-String.ensures
    (required_by r c.is_label_value.result is_value (codes "metadata.labels") (codes "bad value") (c.is_label_value.ensures ∙ ap is_label_value c.as_str.ensures.value) c.require_at-in-String.ensures))
