use Rattle.std.proofs.Common.{ap, ◌∙◌}
use Rattle.serde_json.specs.Data.{put}
use Rattle.serde_json.specs.View.{members_view, view}
use Rattle.serde_json.proofs.Views.{members_view-insert_entry}
use Rattle.json_patch.proofs.Placed.{member_put}
use Rattle.json_patch.proofs.placing.add_child.Goals as goal

pub returns-in_ok-insert-in-Object : goal.returns-in_ok-insert-in-Object
returns-in_ok-insert-in-Object c =
    let members = c.in-Object.members in
    let name = c.in_ok-from_str-in-Object.field-0 in
    member_put c.args.token.now c.args.whole members c.in-Object.is c.insert.new.self (view c.args.value)
    (ap members_view c.in_ok-insert-in-Object.ensures.entries ∙ members_view-insert_entry members.entries name c.args.value
    ∙ ap (λ t. put t (view c.args.value) (members_view members.entries)) c.in_ok-from_str-in-Object.ensures.ok)
