use Rattle.std.proofs.Common.{◌++◌, string_bytes, ap, ◌∙◌}
use Rattle.pathmap.specs.Maps.{contents_in}
use Rattle.pathmap.proofs.Prefixes.{others, passed}
use Rattle.pathmap.proofs.walk.pass.Goals as goal

pub returns-clause-passed : goal.returns-clause-passed
returns-clause-passed c = c.in_ok-push_copies.ensures ∙ ap (λ l. contents_in c.args.all.now.items ++ l) (passed (string_bytes c.args.name.now) c.args.rest.now c.count_before-count.result c.count_before-count.ensures.count)

pub returns-clause-left : goal.returns-clause-left
returns-clause-left c = others (string_bytes c.args.name.now) c.args.rest.now c.count_before-count.result c.count_before-count.ensures.count
