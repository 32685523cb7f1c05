use Rattle.revtable.proofs.Fields.{ordered_rows, prune_stands}
use Rattle.revtable.proofs.table.Table.prune.Goals as goal

pub prune-requires-clause-ordered : goal.prune-requires-clause-ordered
prune-requires-clause-ordered c = ordered_rows _ _ _ c.self.invariant.0.pruned.is.rising c.self.invariant.0.rows

pub invariant_of-self-2 : goal.invariant_of-self-2
invariant_of-self-2 c =
    (prune_stands c.args.revision c.min.result c.max-to.result c.self.inside.current c.self.inside.compacted c.self.inside.log c.prune.new.self c.args.self.now
    c.self.invariant.0 c.self.invariant.1 c.self.invariant.2 c.self.view_is c.min.ensures c.max-to.ensures c.in_ok-prune.ensures.ok).0

pub returns-clause-ok : goal.returns-clause-ok
returns-clause-ok c =
    (prune_stands c.args.revision c.min.result c.max-to.result c.self.inside.current c.self.inside.compacted c.self.inside.log c.prune.new.self c.args.self.now
    c.self.invariant.0 c.self.invariant.1 c.self.invariant.2 c.self.view_is c.min.ensures c.max-to.ensures c.in_ok-prune.ensures.ok).1
