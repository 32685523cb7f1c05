use Rattle.std.proofs.Common.{ap, ◌∙◌, string_bytes}
use Rattle.serde_json.specs.Data.{put, object}
use Rattle.serde_json.specs.View.{members_view}
use Rattle.serde_json.specs.declared.value.Value.{Object}
use Rattle.serde_json.proofs.Views.{members_view-insert_entry, view-Object}
use Rattle.fieldset.proofs.fields_v1.put_leaf.Goals as goal

pub returns : goal.returns
returns c =
    let old = c.args.members.now.entries in
    ap members_view c.in_ok-insert.ensures.entries ∙ members_view-insert_entry old c.args.text (Object c.new.result)
    ∙ ap (λ d. put (string_bytes c.args.text) d (members_view old)) (view-Object c.new.result ∙ ap (λ es. object (members_view es)) c.new.ensures.empty)
