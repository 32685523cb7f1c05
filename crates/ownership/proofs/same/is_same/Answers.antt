use Rattle.std.proofs.Common.{sym, ◌∙◌}
use Rattle.objects.specs.Managers.{pairs}
use Rattle.objects.specs.Views.{state_of}
use Rattle.ownership.proofs.Sameness.{both_same, contents_differ, decided}
use Rattle.ownership.proofs.same.is_same.Goals as goal

pub returns-then-is_same_content-clause-value : goal.returns-then-is_same_content-clause-value
returns-then-is_same_content-clause-value c =
    both_same (state_of c.args.one.now) (state_of c.args.other.now) c.are_same_entries.result (pairs c.entries.result.now) (pairs c.entries-then-is_same_content.result.now) (sym c.is_same_content.ensures ∙ c.if-is_same_content.true) c.are_same_entries.ensures
    c.entries.ensures.entries c.entries-then-is_same_content.ensures.entries

pub returns-then-is_same_content-clause-same : goal.returns-then-is_same_content-clause-same
returns-then-is_same_content-clause-same c = decided (state_of c.args.one.now) (state_of c.args.other.now) c.are_same_entries.result (returns-then-is_same_content-clause-value c)

pub returns-else-is_same_content-clause-value : goal.returns-else-is_same_content-clause-value
returns-else-is_same_content-clause-value c = contents_differ (state_of c.args.one.now) (state_of c.args.other.now) c.is_same_content.result c.is_same_content.ensures c.if-is_same_content.false

pub returns-else-is_same_content-clause-same : goal.returns-else-is_same_content-clause-same
returns-else-is_same_content-clause-same c = decided (state_of c.args.one.now) (state_of c.args.other.now) c.is_same_content.result (returns-else-is_same_content-clause-value c)
