use Rattle.revtable.proofs.Prefixes.{cut_all, cut_is, got_at}
use Rattle.revtable.proofs.merging.reached.Goals as goal

pub returns-in-None-clause-ok : goal.returns-in-None-clause-ok
returns-in-None-clause-ok c cs rising found = cut_all c.args.max c.args.to cs rising

pub returns-in_ok-last-in-Some-clause-ok : goal.returns-in_ok-last-in-Some-clause-ok
returns-in_ok-last-in-Some-clause-ok c cs rising found =
    let there = c.in-Some.ensures.lookup.3 in
    cut_is c.args.max c.saturating_sub.result c.args.to c.min.result c.in_ok-last-in-Some.last cs c.args.made.now c.in-Some.row.now rising found c.saturating_sub.ensures
    (got_at c.args.made.now c.saturating_sub.result c.in-Some.row.now there.0 (there.1 c.in-Some.row.now)) c.in_ok-last-in-Some.ensures.ok.1 c.min.ensures
