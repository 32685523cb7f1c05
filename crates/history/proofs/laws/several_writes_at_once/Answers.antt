use Rattle.history.proofs.Writes.{changes_all, current_all, pruned_all, view_all, whole_all}
use Rattle.history.proofs.laws.several_writes_at_once.Goals as goal

pub returns : goal.returns
returns c = record {
  changes = changes_all;
  current = current_all;
  seen = λ h ws is. view_all h ws is.low;
  kept = λ h ws is. pruned_all h ws is.rising is.low;
  whole = whole_all;
}
