use Rattle.std.proofs.Common.{◌≤◌, ◌+◌, refl, sym, subst, ◌∙◌, arith, length}
use Rattle.sqlite.specs.Held.{state}
use Rattle.revtable.specs.Rows.{Amid}
use Rattle.revtable.proofs.Several.{all_so_far, current_so_far, marked_so_far, row_so_far, rising_so_far, rows_so_far, so_far}
use Rattle.revtable.proofs.Within.{on_err}
use Rattle.revtable.proofs.writing.write_changes.Goals as goal

pub loop-write-init : goal.loop-write-init
loop-write-init g c = (refl, omega arith, omega arith, λ start h rising now low amid. amid)

pub overflow_add-current : goal.overflow_add-current
overflow_add-current g c = omega (arith, c.loop-write.invariant.1, c.loop-write-test.true, c.requires.current)

pub write_rows-requires-clause-fits : goal.write_rows-requires-clause-fits
write_rows-requires-clause-fits g c = omega (arith, c.loop-write.invariant.1, c.loop-write-test.true, c.requires.current)

pub set_marks-requires-clause-current : goal.set_marks-requires-clause-current
set_marks-requires-clause-current g c = omega (arith, c.loop-write.invariant.1, c.loop-write.invariant.2, c.requires.current)

pub returns-in_err-write_rows-clause-same_reference : goal.returns-in_err-write_rows-clause-same_reference
returns-in_err-write_rows-clause-same_reference g c = c.write_rows.ensures.same_reference ∙ c.loop-write.invariant.0

pub returns-in_err-write_rows-clause-err : goal.returns-in_err-write_rows-clause-err
returns-in_err-write_rows-clause-err g c start h rising now low amid =
    let ws = c.args.writes.now in
    let i = c.loop-write.write-index in
    let le : i ≤ length ws = omega (arith, c.loop-write-test.true) in
    let is = current_so_far h ws i le in
    on_err c.from_residual.result _
    (c.in_err-write_rows.ensures.err start (rows_so_far h ws i) (so_far h ws i).changes (so_far h ws i).current (rising_so_far h ws i rising) (omega (arith, is, now, c.loop-write.invariant.1)) refl (c.loop-write.invariant.3 start h rising now low amid))

pub loop-write-preserved : goal.loop-write-preserved
loop-write-preserved g c =
    let ws = c.args.writes.now in
    let i = c.loop-write.write-index in
    let le : i ≤ length ws = omega (arith, c.loop-write-test.true) in (
      c.write_rows.ensures.same_reference ∙ c.loop-write.invariant.0,
      omega (arith, c.loop-write.invariant.1),
      omega (arith, c.loop-write.invariant.1, c.loop-write-test.true),
      λ start h rising now low amid.
          let is = current_so_far h ws i le in
          subst (λ st. Amid start st (state g.S.Store c.write_rows.new.writing.conn.now))
          (row_so_far h ws i c.write-item.result (c.loop-write.current + 1) _ c.loop-write-test.true c.write-item.is (omega (arith, now, c.loop-write.invariant.1)) c.as_deref.ensures.value)
          (c.in_ok-write_rows.ensures.ok start (rows_so_far h ws i) (so_far h ws i).changes (so_far h ws i).current (rising_so_far h ws i rising) (omega (arith, is, now, c.loop-write.invariant.1)) refl (c.loop-write.invariant.3 start h rising now low amid)),
    )

pub returns-in_err-set_marks-clause-same_reference : goal.returns-in_err-set_marks-clause-same_reference
returns-in_err-set_marks-clause-same_reference g c = c.set_marks.ensures.same_reference ∙ c.loop-write.invariant.0

pub returns-in_err-set_marks-clause-err : goal.returns-in_err-set_marks-clause-err
returns-in_err-set_marks-clause-err g c start h rising now low amid = on_err c.from_residual-in_err-set_marks.result _ (c.in_err-set_marks.ensures.err start _ (c.loop-write.invariant.3 start h rising now low amid))

pub returns-clause-same_reference : goal.returns-clause-same_reference
returns-clause-same_reference g c = c.set_marks.ensures.same_reference ∙ c.loop-write.invariant.0

pub returns-clause-ok : goal.returns-clause-ok
returns-clause-ok g c start h rising now low amid =
    subst (λ st. Amid start st (state g.S.Store c.set_marks.new.writing.conn.now))
    (marked_so_far h c.args.writes.now c.loop-write.write-index c.loop-write.current c.args.marks.compacted (omega (arith, c.loop-write.invariant.1, c.loop-write.invariant.2)) (omega (arith, c.loop-write-test.false)) (omega (arith, now, c.loop-write.invariant.1)) (sym low))
    (c.in_ok-set_marks.ensures.ok start _ (c.loop-write.invariant.3 start h rising now low amid))
