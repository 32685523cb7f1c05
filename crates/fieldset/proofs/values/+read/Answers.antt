use Rattle.std.proofs.Common.{false, ◌&&◌, ◌≡◌, Ok, string_bytes, sym, subst, ap, ap₂, ◌∙◌}
use Rattle.std.proofs.lemmas.Result.{err_from_is_err_and}
use Rattle.serde_json.specs.View.{members_view, view}
use Rattle.serde_json.proofs.Views.{view-Object}
use Rattle.pathmap.specs.Contents.{over}
use Rattle.pathmap.specs.Maps.{content}
use Rattle.pathmap.proofs.Contents.{nothing-over}
use Rattle.schema.specs.TypeRefs.{type_ref}
use Rattle.fieldset.specs.FieldsV1.{needs_members, is_empty, is_marked, read_at, read_members, top}
use Rattle.fieldset.specs.Views.{FailsWith, IsNamed, member_view, read_named}
use Rattle.fieldset.proofs.Owning.{names_ascend}
use Rattle.fieldset.proofs.Taking.{added, at_object, begin, failed, finish, is_none, nothing_added, passed_on}
use Rattle.fieldset.proofs.values.+read.Goals as goal
use Rattle.fieldset.proofs.values.+read.Goals.{read_at-then-is_marked, read_at-else-is_marked, read_at-else-needs_members-via-then-needs_members+else-is_empty, read_at-else-needs_members-via-else-needs_members}

pub read_members-loop-name-init : goal.read_members-loop-name-init
read_members-loop-name-init t c =
    let ms = members_view c.args.members.now.entries in
    begin (type_ref c.args.here) ms (content c.empty-map.result) (members_view c.into_iter-name-iterator.result) ms c.empty-map.ensures
    (ap members_view (c.into_iter-name-iterator.ensures.into_iter_gives ∙ c.iter-name-items.ensures.rest)) (names_ascend c.args.members.now.entries c.iter-name-items.ensures.ordered)

pub read_members-returns-in_err-member : goal.read_members-returns-in_err-member
read_members-returns-in_err-member t c =
    let s = type_ref c.args.here in
    let ms = members_view c.args.members.now.entries in
    let d = view c.in-Some.value.now in
    let p = err_from_is_err_and c.from_residual.result c.from_residual.ensures.1 in
    let f = c.in_err-member.field-0.0 in
    passed_on content p.0 f c.from_residual.result (read_members s ms ms) p.1 p.2
    (failed s ms (read_members s ms ms) (content c.loop-name.map) (members_view c.loop-name.name-iterator) (string_bytes c.in-Some.name.now) d (members_view c.next.new.self) (ap members_view c.in-Some.ensures.steps) c.loop-name.invariant f
    (subst (λ k. FailsWith f (read_named s ms k d (λ next. read_at next d))) c.as_str.ensures.value c.in_err-member.ensures.read))

pub read_members-loop-name-preserved-in_default : goal.read_members-loop-name-preserved-in_default
read_members-loop-name-preserved-in_default t c =
    let s = type_ref c.args.here in
    let ms = members_view c.args.members.now.entries in
    let d = view c.in-Some.value.now in
    nothing_added s ms (read_members s ms ms) (content c.loop-name.map) (members_view c.loop-name.name-iterator) (string_bytes c.in-Some.name.now) d (members_view c.next.new.self) (ap members_view c.in-Some.ensures.steps) c.loop-name.invariant
    (ap (λ k. read_named s ms k d (λ next. read_at next d)) (sym c.as_str.ensures.value) ∙ c.in_ok-member.ensures.read ∙ ap (λ o. Ok (member_view o)) (is_none c.in_ok-member.field-0 c.in_default.not-Some))

pub read_members-loop-name-preserved : goal.read_members-loop-name-preserved
read_members-loop-name-preserved t c =
    let s = type_ref c.args.here in
    let ms = members_view c.args.members.now.entries in
    let d = view c.in-Some.value.now in
    added s ms (read_members s ms ms) (content c.loop-name.map) (members_view c.loop-name.name-iterator) (string_bytes c.in-Some.name.now) d (members_view c.next.new.self) (ap members_view c.in-Some.ensures.steps) c.loop-name.invariant
    (string_bytes c.in-Some-2.member.element) c.in-Some-2.member.map (content c.insert_child.new.self) c.in_ok-insert_child.field-0
    (ap (λ k. read_named s ms k d (λ next. read_at next d)) (sym c.as_str.ensures.value) ∙ c.in_ok-member.ensures.read ∙ ap (λ o. Ok (member_view o)) c.in-Some-2.is)
    (subst (λ o. IsNamed o c.as_str.result.now) c.in-Some-2.is c.in_ok-member.ensures.named ∙ c.as_str.ensures.value) c.in_ok-insert_child.ensures.added c.in_ok-insert_child.ensures.put

pub read_members-returns : goal.read_members-returns
read_members-returns t c =
    let s = type_ref c.args.here in
    let ms = members_view c.args.members.now.entries in
    finish s ms (read_members s ms ms) (content c.loop-name.map) (members_view c.loop-name.name-iterator) (ap members_view c.in-None.ensures.steps.0) c.loop-name.invariant

pub read_at-returns : goal.read_at-returns
read_at-returns t c =
    let s = type_ref c.args.here in
    let ms = members_view c.in-Object.members.entries in
    let has_needed : (needs_members s && is_empty ms) ≡ false =
    elim c.else-needs_members.branch [
      | read_at-else-needs_members-via-then-needs_members+else-is_empty w ↦ sym (ap₂ (λ a b. a && b) w.if-needs_members.ensures w.if-is_empty.ensures)
      | read_at-else-needs_members-via-else-needs_members w ↦ sym (ap (λ a. a && is_empty ms) w.if-needs_members.ensures)
    ] in
    let topped : c.if-is_marked.map ≡ over (top (is_marked s ms)) c.in_ok-map.map =
    elim c.if-is_marked.branch [
      | read_at-then-is_marked w ↦ w.map-is ∙ w.mark.ensures ∙ ap (λ b. over (top b) c.in_ok-map.map) (w.if-is_marked.ensures ms c.has.ensures)
      | read_at-else-is_marked w ↦ w.map-is ∙ sym (nothing-over c.in_ok-map.map) ∙ ap (λ b. over (top b) c.in_ok-map.map) (w.if-is_marked.ensures ms c.has.ensures)
    ] in
    ap (λ v. read_at s (view v)) c.in-Object.is ∙ ap (read_at s) (view-Object c.in-Object.members) ∙ at_object s ms c.in_ok-map.map c.if-is_marked.map has_needed c.in_ok-map.ensures topped
