use Rattle.std.proofs.Common.{◌≡◌, ap, ◌∙◌}
use Rattle.serde_json.specs.Data.{object}
use Rattle.serde_json.specs.View.{view}
use Rattle.serde_json.specs.declared.value.Value.{Object}
use Rattle.serde_json.proofs.Views.{view-Object}
use Rattle.fieldpath.specs.Elements.{key_members}
use Rattle.fieldpath.specs.Scalars.{key_fields}
use Rattle.fieldpath.proofs.KeyFields.{keys_clean, text_given}
use Rattle.fieldpath.proofs.keys.Keys.json.Goals as goal

pub returns : goal.returns
returns c =
    let members = c.in_ok-members_of.field-0 in
    let shown : view (Object members) ≡ object (key_members c.args.self.now) =
    view-Object members ∙ ap object (c.in_ok-members_of.ensures ∙ ap (λ l. key_members (key_fields l)) c.deref.ensures.value ∙ ap key_members c.self.view_is) in
    text_given c.to_string.result (view (Object members)) (object (key_members c.args.self.now)) shown (keys_clean c.args.self.now) c.to_string.ensures.text
