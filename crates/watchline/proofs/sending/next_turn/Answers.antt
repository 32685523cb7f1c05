use Rattle.std.proofs.Common.{◌∙◌, ◌-◌, ◌++◌, ap, ap₂, length, map, option_map, string_bytes, sym, take}
use Rattle.std.specs.Prelude.{nat_lt}
use Rattle.std.proofs.lemmas.List.{length-map}
use Rattle.history.specs.Seen.{reached, seen_in}
use Rattle.lists.specs.Labels.{selection_of}
use Rattle.history.specs.Read.{entry_of}
use Rattle.watchline.specs.Lines.{added, line_of}
use Rattle.watchline.specs.Views.{seen_change_of, cursor_of, initial_left_of, lines_in}
use Rattle.watchline.specs.Watches.{changes_left, from_view, initial_left_after_count, objects_left, position_by}
use Rattle.watchline.proofs.Coming.{turned}
use Rattle.watchline.proofs.sending.next_turn.Goals as goal

pub returns-clause-sent : goal.returns-clause-sent
returns-clause-sent c =
    let v = c.args.store.now in
    let scope = c.args.scope.now in
    let progress = c.args.progress.now in
    let w = cursor_of scope progress in
    let s = from_view v in
    let objects = map entry_of c.in_ok-objects.objects.items in
    let changes = map seen_change_of c.in_ok-changes.changes.items in
    let lines = lines_in c.in_ok-lines.lines.items in
    let next = c.moved-next.result in
    turned s w c.args.max objects changes c.in_ok-objects.ensures.found
    (
    c.in_ok-changes.ensures.seen
    ∙ ap (λ u. take c.saturating_sub-room.result (seen_in (selection_of scope.kind (option_map string_bytes scope.namespace) scope.selector) u progress.position u.current)) c.objects_sent.ensures.same
    ∙ ap (λ n. take n (changes_left s w)) (c.saturating_sub-room.ensures ∙ ap (λ n. c.args.max - n) (c.len.ensures ∙ c.in_ok-objects.objects.ok.0 ∙ sym (length-map c.in_ok-objects.objects.items entry_of)))
    )
    lines (c.in_ok-lines.ensures ∙ ap₂ (λ os cs. map line_of (map added (map entry_of os) ++ map seen_change_of cs)) c.deref.ensures.value c.deref-2.ensures.value)
    next.position next.sent (initial_left_of next.left) (initial_left_after_count c.args.max (objects_left s w) w.left)
    (
    c.moved-next.ensures.position
    ∙ ap₂ (λ b cs. position_by b c.current-current.result (reached progress.position (map seen_change_of cs)))
    (ap (λ n. nat_lt n c.args.max) (c.len-2.ensures ∙ c.in_ok-lines.lines.ok.0 ∙ sym (length-map c.in_ok-lines.lines.items string_bytes))) c.deref-3.ensures.value
    ∙ ap (λ n. position_by (nat_lt (length lines) c.args.max) n (reached progress.position changes)) c.current-current.ensures.current
    )
    (c.moved-next.ensures.sent ∙ ap (λ cs. reached progress.sent (map seen_change_of cs)) c.deref-3.ensures.value)
    (ap initial_left_of c.moved-next.ensures.left ∙ c.in_ok-objects.ensures.left)
