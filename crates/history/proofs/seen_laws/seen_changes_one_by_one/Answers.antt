use Rattle.history.proofs.Befores.{seen_of_own, seen_one_by_one, view_one_by_one}
use Rattle.history.proofs.seen_laws.seen_changes_one_by_one.Goals as goal

pub returns : goal.returns
returns c = record { each = seen_one_by_one; inside = seen_of_own; in_view = view_one_by_one }
