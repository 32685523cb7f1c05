use Rattle.std.proofs.Common.{◌∙◌, sym, ap, map, subst}
use Rattle.history.specs.Kept.{IsPruned}
use Rattle.revtable.specs.Kept.{AreFirstKept}
use Rattle.history.specs.Read.{entry_of}
use Rattle.revtable.specs.Spans.{stored_of}
use Rattle.sqlite.specs.Values.{bound}
use Rattle.revtable.proofs.Fields.{stored_back}
use Rattle.revtable.proofs.Outcomes.{when_ok}
use Rattle.revtable.proofs.table.Table.ask_kept.Goals as goal

pub returns-clause-ok : goal.returns-clause-ok
returns-clause-ok g c =
    when_ok c.ask_kept.result _ _ (λ v h.
    subst (λ st. AreFirstKept c.args.sql.now (bound c.args.params.now) st (g.K.Keep.kept c.args.keep.now) c.args.max (map entry_of v.items)) (sym (stored_back _ c.self.invariant.0) ∙ ap stored_of c.self.view_is) h) c.ask_kept.ensures.ok

pub returns-clause-sound : goal.returns-clause-sound
returns-clause-sound g c = subst IsPruned c.self.view_is c.self.invariant.0.pruned
