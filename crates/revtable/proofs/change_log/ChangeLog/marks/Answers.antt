use Rattle.std.proofs.Common.{◌∙◌, ap, slice_get, ℕ}
use Rattle.revtable.proofs.MarksRow.{asked_marks, asked_one}
use Rattle.revtable.proofs.Texts.{marks_is, marks_plain}
use Rattle.revtable.proofs.change_log.ChangeLog.marks.Goals as goal

pub ask-requires-clause-plain : goal.ask-requires-clause-plain
ask-requires-clause-plain g c = marks_plain

pub ask-requires-clause-unlisted : goal.ask-requires-clause-unlisted
ask-requires-clause-unlisted g c = marks_is.1

pub unreachable-requires : goal.unreachable-requires
unreachable-requires g c = asked_one c.args.self.now c.in_ok-rows.rows.items c.in_ok-rows.ensures.ok (c.in-None.ensures.value ∙ ap (λ l. slice_get l 0) c.deref.ensures.value)

pub returns-clause-current : goal.returns-clause-current
returns-clause-current g c =
    c.in_ok-read_marks-in-Some.ensures.0
    ∙ ap (λ (p : ℕ × ℕ). p.0) (asked_marks c.args.self.now c.in_ok-rows.rows.items c.in-Some.row.now c.in_ok-rows.ensures.ok (c.in-Some.ensures.value ∙ ap (λ l. slice_get l 0) c.deref.ensures.value))

pub returns-clause-compacted : goal.returns-clause-compacted
returns-clause-compacted g c =
    c.in_ok-read_marks-in-Some.ensures.1
    ∙ ap (λ (p : ℕ × ℕ). p.1) (asked_marks c.args.self.now c.in_ok-rows.rows.items c.in-Some.row.now c.in_ok-rows.ensures.ok (c.in-Some.ensures.value ∙ ap (λ l. slice_get l 0) c.deref.ensures.value))
