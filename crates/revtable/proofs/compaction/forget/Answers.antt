use Rattle.revtable.proofs.Within.{on_err}
use Rattle.revtable.proofs.compaction.forget.Goals as goal

pub returns-in_err-set_marks-clause-err : goal.returns-in_err-set_marks-clause-err
returns-in_err-set_marks-clause-err g c start st rising amid = on_err c.from_residual-in_err-set_marks.result _ (c.in_err-set_marks.ensures.err start _ (c.in_ok-delete_ended.ensures.ok start st rising amid))

pub returns-clause-ok : goal.returns-clause-ok
returns-clause-ok g c start st rising amid = c.in_ok-set_marks.ensures.ok start _ (c.in_ok-delete_ended.ensures.ok start st rising amid)
