use Rattle.std.proofs.Common.{ap, sym, ◌∙◌, option_map}
use Rattle.serde_json.specs.Data.{put}
use Rattle.serde_json.specs.View.{view, members_view}
use Rattle.serde_json.proofs.Views.{members_view-insert_entry}
use Rattle.typed.specs.Printing.{with_member}
use Rattle.typed.proofs.print_parts.put_member.Goals as goal

pub returns-in_ok-insert : goal.returns-in_ok-insert
returns-in_ok-insert c =
    let old = c.args.members.now.entries in
    let name = c.args.name.now in
    ap members_view c.in_ok-insert.ensures.entries ∙ members_view-insert_entry old c.in_ok-from_str.field-0 c.in-Some.value
    ∙ ap (λ k. put k (view c.in-Some.value) (members_view old)) c.in_ok-from_str.ensures.ok
    ∙ sym (ap (λ o. with_member name (option_map view o) (members_view old)) c.in-Some.is)
