use Rattle.reflector.proofs.Ascending.{joined_rows}
use Rattle.reflector.proofs.paged_list.joins.Goals as goal

pub returns-in-Some-first : goal.returns-in-Some-first
returns-in-Some-first c = λ sorted.
    joined_rows c.args.paged_list.now c.args.found.now c.in-Some.last.now c.in-Some-first.first.now c.is_before.result c.in-Some.ensures.value c.in-Some-first.ensures.value c.is_before.ensures sorted
