use Rattle.std.proofs.Common.{rules, ◌≡◌, true, false, ◌∙◌}
use Rattle.std.specs.BTreeSet.{contains}
use Rattle.std.specs.Ordering.{nat_cmp, eq_by_cmp}
use Rattle.httpedge.proofs.Forgetting.{closes_else, closes_then}
use Rattle.httpedge.proofs.connections.Connections.close.Goals as goal

pub returns-then-not-is_open-clause-closes : goal.returns-then-not-is_open-clause-closes
returns-then-not-is_open-clause-closes c = λ q.
    let shut : c.args.is_open ≡ false = search rules in
    c.remove.ensures.updates.0 q ∙ closes_then (eq_by_cmp nat_cmp c.args.id q) (contains nat_cmp c.args.self.now.open_ids q) c.args.is_open shut

pub returns-else-not-is_open-clause-closes : goal.returns-else-not-is_open-clause-closes
returns-else-not-is_open-clause-closes c = λ q.
    let still : c.args.is_open ≡ true = search rules in
    closes_else (eq_by_cmp nat_cmp c.args.id q) (contains nat_cmp c.args.self.now.open_ids q) c.args.is_open still
