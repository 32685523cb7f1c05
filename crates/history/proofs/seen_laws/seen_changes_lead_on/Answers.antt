use Rattle.std.proofs.Common.{refl}
use Rattle.history.proofs.Added.{all_put}
use Rattle.history.proofs.Following.{between, prefix_seen, next_seen, none_seen}
use Rattle.history.proofs.Selecting.{changes_apply}
use Rattle.history.proofs.seen_laws.seen_changes_lead_on.Goals as goal

pub returns : goal.returns
returns c = record {
  changes = changes_apply;
  between = between;
  stays = none_seen;
  next = next_seen;
  prefix = λ wanted cs top p n rise h. (prefix_seen wanted cs top n p _ rise h refl).reaches;
  left = λ wanted cs top p n rise h. (prefix_seen wanted cs top n p _ rise h refl).left;
  added = all_put;
}
