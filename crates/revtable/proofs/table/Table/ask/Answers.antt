use Rattle.std.proofs.Common.{◌∙◌, sym, ap, subst}
use Rattle.history.specs.History.{History}
use Rattle.history.specs.Kept.{IsPruned}
use Rattle.history.specs.Whole.{AreThere}
use Rattle.std.specs.FinMap as fin
use Rattle.revtable.specs.Rows.{IsAnswer}
use Rattle.revtable.specs.Spans.{stored_of}
use Rattle.sqlite.specs.Values.{bound}
use Rattle.revtable.proofs.Fields.{stored_back}
use Rattle.revtable.proofs.table.Table.ask.Goals as goal

pub returns-clause-ok : goal.returns-clause-ok
returns-clause-ok c =
    subst (λ st. IsAnswer c.args.sql.now (bound c.args.params.now) st c.in_ok-ask.field-0.items) (sym (stored_back _ c.self.invariant.0) ∙ ap stored_of c.self.view_is) c.in_ok-ask.ensures.ok

pub returns-clause-sound : goal.returns-clause-sound
returns-clause-sound c = subst IsPruned c.self.view_is c.self.invariant.0.pruned

pub returns-clause-there : goal.returns-clause-there
returns-clause-there c = subst (λ (h : History). AreThere fin.empty h.changes) c.self.view_is c.self.invariant.0.there
