use Rattle.std.proofs.Common.{ap, ap₂, ◌∙◌}
use Rattle.serde_json.specs.Data.{put}
use Rattle.serde_json.specs.View.{members_view}
use Rattle.serde_json.proofs.Views.{members_view-insert_entry}
use Rattle.fieldpath.proofs.KeyFields.{members_first}
use Rattle.fieldpath.proofs.keys.+members_of.Goals as goal

pub returns : goal.returns
returns t c =
    let old = c.in_ok-members.members.entries in
    ap members_view c.in_ok-insert.ensures.entries
    ∙ members_view-insert_entry old c.in_ok-clone.field-0 c.in_ok-to_value.field-0
    ∙ ap₂ (λ k d. put k d (members_view old)) c.in_ok-clone.ensures.cases c.in_ok-to_value.ensures
    ∙ ap (put _ _) c.in_ok-members.ensures
    ∙ members_first c.args.fields.now c.in-Some.field.now c.in-Some.rest.now c.in-Some.ensures.cases.0 c.requires
