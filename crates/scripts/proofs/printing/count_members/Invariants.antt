use Rattle.std.proofs.Common.{◌≡◌}
use Rattle.serde_json.specs.Data.{no_members}
use Rattle.serde_json.specs.View.{members_view}
use Rattle.summary.proofs.Members.{puts}
use Rattle.scripts.proofs.printing.count_members.Given as goal

abbrev pub invariant-loop-value : goal.invariant-loop-value
invariant-loop-value l = puts (members_view l.members.entries) l.value-iterator ≡ puts no_members l.counts.entries
