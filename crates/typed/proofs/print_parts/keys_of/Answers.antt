use Rattle.std.proofs.Common.{ap, sym, ◌∙◌, option_map, Some}
use Rattle.std.specs.Prelude.{option_and_then}
use Rattle.serde_json.specs.Find.{as_object}
use Rattle.serde_json.specs.Read.{read}
use Rattle.serde_json.specs.View.{view, members_view}
use Rattle.serde_json.proofs.Views.{view-Object}
use Rattle.typed.proofs.print_parts.keys_of.Goals as goal

pub returns-in-Some-Object : goal.returns-in-Some-Object
returns-in-Some-Object c =
    let keys = c.in-Some-Object.keys in
    ap (λ m. Some (members_view m.entries)) c.in-Some-Object.keys-is
    ∙ sym (ap (λ o. option_and_then as_object (option_and_then read o)) (sym c.keys_json.ensures ∙ ap (option_map (λ s. s.now)) c.in-Some.is)
    ∙ ap (option_and_then as_object) (sym c.in_ok-keys.ensures ∙ ap (option_map view) c.in-Some-Object.is)
    ∙ ap (λ v. as_object (view v)) c.in-Some-Object.field-0-is ∙ ap as_object (view-Object keys))
