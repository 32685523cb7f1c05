use Rattle.std.proofs.Common.{◌≡◌, string_bytes, ap, subst, ◌∙◌}
use Rattle.serde_json.specs.Data.{put}
use Rattle.serde_json.specs.View.{members_view, view}
use Rattle.serde_json.proofs.Views.{members_view-insert_entry}
use Rattle.typed.specs.Faults.{Returns}
use Rattle.typed.proofs.plain.put_member.Goals as goal

pub returns-in_ok-insert-in-Ok : goal.returns-in_ok-insert-in-Ok
returns-in_ok-insert-in-Ok c answer gives =
    let old = c.args.members.now.entries in
    let name = c.in_ok-from_str-in-Ok.field-0 in
    let named : string_bytes name ≡ c.args.name.now = c.in_ok-from_str-in-Ok.ensures.ok in (
      view c.in-Ok.value,
      subst (λ r. Returns view r answer) c.in-Ok.is gives,
      ap members_view c.in_ok-insert-in-Ok.ensures.entries ∙ members_view-insert_entry old name c.in-Ok.value ∙ ap (λ k. put k (view c.in-Ok.value) (members_view old)) named,
    )
