use Rattle.std.proofs.Common.{◌∙◌, ap, sym}
use Rattle.serde_json.specs.View.{members_view}
use Rattle.summary.proofs.Members.{puts, all_members}
use Rattle.scripts.proofs.printing.count_members.Goals as goal

pub returns : goal.returns
returns c =
    ap (puts (members_view c.loop-value.members.entries)) (sym c.in-None.ensures.steps.0) ∙ c.loop-value.invariant
    ∙ all_members c.args.counts.now c.iter-value-items.ensures.ordered
