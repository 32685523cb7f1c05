use Rattle.wireclient.specs.Reply.{ended, broken}
use Rattle.wireclient.proofs.Lengthened.{after_broken, after_end, takes_all}
use Rattle.wireclient.proofs.taking.take_in.Goals as goal

pub returns-in-Ended : goal.returns-in-Ended
returns-in-Ended c = rw c.in-Ended.is (takes_all ended c.args.piece.now (after_end c.args.piece.now))

pub returns-in-Broken : goal.returns-in-Broken
returns-in-Broken c = rw c.in-Broken.is (takes_all broken c.args.piece.now (after_broken c.args.piece.now))
