use Rattle.history.proofs.Apart.{seen_at_own, seen_changes_own, state_of_own}
use Rattle.history.proofs.Lists.{filter-push}
use Rattle.history.proofs.Revisions.{rising-filter}
use Rattle.history.proofs.seen_laws.types_stand_apart.Goals as goal

pub returns : goal.returns
returns c = record {
  rising = λ own lo top cs rise. rising-filter _ lo top cs rise;
  pushed = λ own cs c. filter-push _ cs c;
  states = state_of_own;
  seen = seen_at_own;
  seen_after = seen_changes_own;
}
