use Rattle.history.proofs.Writes.{kept_all}
use Rattle.revstore.specs.Waiting.{waiting_in}
use Rattle.revstore.proofs.Behind.{written_so}
use Rattle.revstore.proofs.batched.flush_if_waiting.Goals as goal

pub returns-in_ok-flush-clause-pruned : goal.returns-in_ok-flush-clause-pruned
returns-in_ok-flush-clause-pruned c =
    (written_so _ c.flush.new.table (waiting_in c.flush.new.window) c.in_ok-flush.ensures.all (kept_all c.args.table.now (waiting_in c.args.window.now) c.requires.kept c.requires.fit.0) c.in_ok-flush.ensures.none_left).0

pub returns-in_ok-flush-clause-follow : goal.returns-in_ok-flush-clause-follow
returns-in_ok-flush-clause-follow c =
    (written_so _ c.flush.new.table (waiting_in c.flush.new.window) c.in_ok-flush.ensures.all (kept_all c.args.table.now (waiting_in c.args.window.now) c.requires.kept c.requires.fit.0) c.in_ok-flush.ensures.none_left).1
