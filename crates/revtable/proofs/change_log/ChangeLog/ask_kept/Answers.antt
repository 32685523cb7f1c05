use Rattle.std.proofs.Common.{sym, subst}
use Rattle.sqlite.specs.Held.{state}
use Rattle.revtable.specs.Rows.{Keeps}
use Rattle.revtable.proofs.change_log.ChangeLog.ask_kept.Goals as goal

pub read-requires-clause-clean : goal.read-requires-clause-clean
read-requires-clause-clean g c = c.self.invariant.0

pub invariant_of-self : goal.invariant_of-self
invariant_of-self g c = (
  c.self.invariant.0,
  subst (λ l. Keeps l (state g.S.Store c.read.new.base)) (sym c.self.view_is)
      (c.read.ensures.keeps c.args.self.now (subst (λ l. Keeps l (state g.S.Store c.self.inside.base)) c.self.view_is c.self.invariant.1)),
)

pub returns-clause-ok : goal.returns-clause-ok
returns-clause-ok g c = c.read.ensures.found c.args.self.now (subst (λ l. Keeps l (state g.S.Store c.self.inside.base)) c.self.view_is c.self.invariant.1)
