use Rattle.std.proofs.Common.{◌≡◌, Some, option_map, string_bytes, sym, ap, ap₂, ◌∙◌}
use Rattle.serde_json.specs.Data.{put}
use Rattle.serde_json.specs.Find.{get_member}
use Rattle.serde_json.specs.View.{members_view, view}
use Rattle.serde_json.proofs.Views.{members_view-insert_entry}
use Rattle.typed.specs.Reading.{put_some}
use Rattle.typed.proofs.items.put_key.Goals as goal

pub returns-in_ok-insert-in-Some : goal.returns-in_ok-insert-in-Some
returns-in_ok-insert-in-Some c =
    let name = string_bytes c.args.name.now in
    let old = c.args.keys.now.entries in
    let found : get_member name (members_view c.args.members.now.entries) ≡ Some (view c.in-Some.value.now) =
    ap (λ k. get_member k (members_view c.args.members.now.entries)) (sym c.as_str.ensures.value) ∙ sym c.member.ensures ∙ ap (option_map (λ v. view v.now)) c.in-Some.is in
    ap members_view c.in_ok-insert-in-Some.ensures.entries
    ∙ members_view-insert_entry old c.in_ok-clone-in-Some.field-0 c.in_ok-clone-in-Some-2.field-0
    ∙ ap₂ (λ k d. put k d (members_view old)) c.in_ok-clone-in-Some.ensures.cases c.in_ok-clone-in-Some-2.ensures.cases
    ∙ ap (λ o. put_some name o (members_view old)) (sym found)
