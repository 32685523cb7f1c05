use Rattle.liveness_laws.proofs.CaseByCase.{catches_so}
use Rattle.liveness_laws.proofs.catches_up.Goals as goal

pub returns : goal.returns
returns c = catches_so (record {
  past = c.past_lists_are_given_up.ensures;
  expired = c.expired_watches_are_given_up.ensures;
  lists = c.lists_go_on.ensures;
  replies = c.replies_end.ensures;
  reads = c.watches_go_on.ensures;
  watches = c.watches_catch_up.ensures;
}) c.both_ends.ensures
