use Rattle.std.proofs.Common.{refl, false, ◌&&◌, ◌≡◌, ◌+◌, ◌<◌, arith, drop, length, Ok, string_bytes, sym, subst, ap, ap₂, ◌∙◌}
use Rattle.std.proofs.lemmas.Result.{err_from_is_err_and}
use Rattle.json.specs.Tree.{json_tokens, members_tokens}
use Rattle.json.specs.Value.{members_view, value_view}
use Rattle.json.proofs.Trees.{member_smaller}
use Rattle.json_texts.specs.InOrder.{data_of}
use Rattle.json_texts.proofs.Parts.{Entry, member_ordered, ordered_parts}
use Rattle.pathmap.specs.Contents.{over}
use Rattle.pathmap.specs.Maps.{content}
use Rattle.pathmap.proofs.Contents.{nothing-over}
use Rattle.schema.specs.TypeRefs.{type_ref}
use Rattle.fieldset.specs.FieldsV1.{needs_members, is_empty, is_marked, read_at, read_members, top}
use Rattle.fieldset.specs.Views.{FailsWith, IsNamed, member_view}
use Rattle.fieldset.proofs.Lent.{data_in, data_next, data_past, members_ordered, members_smaller, names_ascend, object_is}
use Rattle.fieldset.proofs.Taking.{added, at_failed, at_object, begin, failed, finish, is_none, nothing_added, passed_on}
use Rattle.fieldset.proofs.fields_v1.+read.Goals as goal
use Rattle.fieldset.proofs.fields_v1.+read.Goals.{read_at-then-is_marked, read_at-else-is_marked, read_at-else-needs_members-via-then-needs_members+else-is_empty, read_at-else-needs_members-via-else-needs_members}

pub read_members-loop-name-init : goal.read_members-loop-name-init
read_members-loop-name-init t c =
    let ms = data_in c.args.members.now in begin (type_ref c.args.here) ms (content c.in_ok-map.map) ms ms c.in_ok-map.ensures refl (names_ascend c.args.members.now c.requires)

pub read_members-returns-in_err-member : goal.read_members-returns-in_err-member
read_members-returns-in_err-member t c =
    let s = type_ref c.args.here in
    let es = c.args.members.now in
    let ms = data_in es in
    let i = c.loop-name.name-index in
    let e = c.loop-name-item.result in
    let d = data_of (value_view e.1) in
    let p = err_from_is_err_and c.from_residual-in_err-member.result c.from_residual-in_err-member.ensures.1 in
    let f = c.in_err-member.field-0.0 in
    passed_on content p.0 f c.from_residual-in_err-member.result (read_members s ms ms) p.1 p.2
    (failed s ms (read_members s ms ms) (content c.loop-name.map) (data_in (drop i es)) e.0.now d (data_in (drop (i + 1) es)) (data_next es i e c.loop-name-test.true c.loop-name-item.is) c.loop-name.invariant f c.in_err-member.ensures.read)

pub read_members-loop-name-preserved-in_default : goal.read_members-loop-name-preserved-in_default
read_members-loop-name-preserved-in_default t c =
    let s = type_ref c.args.here in
    let es = c.args.members.now in
    let ms = data_in es in
    let i = c.loop-name.name-index in
    let e = c.loop-name-item.result in
    nothing_added s ms (read_members s ms ms) (content c.loop-name.map) (data_in (drop i es)) e.0.now (data_of (value_view e.1)) (data_in (drop (i + 1) es)) (data_next es i e c.loop-name-test.true c.loop-name-item.is) c.loop-name.invariant
    (c.in_ok-member.ensures.read ∙ ap (λ o. Ok (member_view o)) (is_none c.in_ok-member.field-0 c.in_default.not-Some))

pub read_members-loop-name-preserved : goal.read_members-loop-name-preserved
read_members-loop-name-preserved t c =
    let s = type_ref c.args.here in
    let es = c.args.members.now in
    let ms = data_in es in
    let i = c.loop-name.name-index in
    let e = c.loop-name-item.result in
    added s ms (read_members s ms ms) (content c.loop-name.map) (data_in (drop i es)) e.0.now (data_of (value_view e.1)) (data_in (drop (i + 1) es)) (data_next es i e c.loop-name-test.true c.loop-name-item.is) c.loop-name.invariant
    (string_bytes c.in-Some.member.element) c.in-Some.member.map (content c.insert_child.new.self) c.in_ok-insert_child.field-0
    (c.in_ok-member.ensures.read ∙ ap (λ o. Ok (member_view o)) c.in-Some.is)
    (subst (λ o. IsNamed o e.0.now) c.in-Some.is c.in_ok-member.ensures.named) c.in_ok-insert_child.ensures.added c.in_ok-insert_child.ensures.put

pub read_members-returns : goal.read_members-returns
read_members-returns t c =
    let s = type_ref c.args.here in
    let es = c.args.members.now in
    let ms = data_in es in
    let i = c.loop-name.name-index in
    finish s ms (read_members s ms ms) (content c.loop-name.map) (data_in (drop i es)) (data_past es i c.loop-name-test.false) c.loop-name.invariant

pub read_members-read_member-requires : goal.read_members-read_member-requires
read_members-read_member-requires t c =
    let es = c.args.members.now in
    let i = c.loop-name.name-index in
    let e = c.loop-name-item.result in
    let smaller : length (json_tokens (value_view e.1)) < length (members_tokens (members_view es)) =
    subst (λ (m : Entry). length (json_tokens (value_view m.1)) < length (members_tokens (members_view es))) (sym c.loop-name-item.is) (member_smaller es i e c.loop-name-test.true) in
    let top = c.decreases in
    (omega (arith, smaller, top), member_ordered es i e c.loop-name-test.true c.loop-name-item.is (ordered_parts (members_view es) c.requires).1)

pub read_at-read_members-requires : goal.read_at-read_members-requires
read_at-read_members-requires t c =
    let ms = c.in-Object.members in
    let es = c.as_slice-members.result.now in
    let smaller : length (members_tokens (members_view es)) < length (json_tokens (value_view c.args.value.now)) =
    members_smaller c.args.value.now ms es c.in-Object.is c.as_slice-members.ensures.value in
    let top = c.decreases in
    (omega (arith, smaller, top), members_ordered c.args.value.now ms es c.in-Object.is c.as_slice-members.ensures.value c.requires)

pub read_at-returns-in_err-map : goal.read_at-returns-in_err-map
read_at-returns-in_err-map t c =
    let s = type_ref c.args.here in
    let ms = data_in c.as_slice-members.result.now in
    let p = err_from_is_err_and c.from_residual.result c.from_residual.ensures.1 in
    let f = c.in_err-map.field-0.0 in
    let has_needed : (needs_members s && is_empty ms) ≡ false =
    elim c.else-needs_members.branch [
      | read_at-else-needs_members-via-then-needs_members+else-is_empty w ↦ sym (ap₂ (λ a b. a && b) w.if-needs_members.ensures w.if-is_empty.ensures)
      | read_at-else-needs_members-via-else-needs_members w ↦ sym (ap (λ a. a && is_empty ms) w.if-needs_members.ensures)
    ] in
    passed_on content p.0 f c.from_residual.result (read_at s (data_of (value_view c.args.value.now))) p.1 p.2
    (subst (FailsWith f) (sym (object_is s c.args.value.now c.in-Object.members c.as_slice-members.result.now c.in-Object.is c.as_slice-members.ensures.value)) (at_failed s ms f has_needed c.in_err-map.ensures))

pub read_at-returns : goal.read_at-returns
read_at-returns t c =
    let s = type_ref c.args.here in
    let ms = data_in c.as_slice-members.result.now in
    let has_needed : (needs_members s && is_empty ms) ≡ false =
    elim c.else-needs_members.branch [
      | read_at-else-needs_members-via-then-needs_members+else-is_empty w ↦ sym (ap₂ (λ a b. a && b) w.if-needs_members.ensures w.if-is_empty.ensures)
      | read_at-else-needs_members-via-else-needs_members w ↦ sym (ap (λ a. a && is_empty ms) w.if-needs_members.ensures)
    ] in
    let topped : c.if-is_marked.map ≡ over (top (is_marked s ms)) c.in_ok-map.map =
    elim c.if-is_marked.branch [
      | read_at-then-is_marked w ↦ w.map-is ∙ w.mark.ensures ∙ ap (λ b. over (top b) c.in_ok-map.map) (w.if-is_marked.ensures ms c.has.ensures)
      | read_at-else-is_marked w ↦ w.map-is ∙ sym (nothing-over c.in_ok-map.map) ∙ ap (λ b. over (top b) c.in_ok-map.map) (w.if-is_marked.ensures ms c.has.ensures)
    ] in
    object_is s c.args.value.now c.in-Object.members c.as_slice-members.result.now c.in-Object.is c.as_slice-members.ensures.value ∙ at_object s ms c.in_ok-map.map c.if-is_marked.map has_needed c.in_ok-map.ensures topped
