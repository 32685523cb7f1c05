use Rattle.std.proofs.Common.{◌∙◌}
use Rattle.discovery.proofs.Joined.{joined_nowhere, joined_where_found}
use Rattle.discovery.proofs.document.is_joined.Goals as goal

pub returns-in-Some : goal.returns-in-Some
returns-in-Some c = c.eq.ensures ∙ joined_where_found c.args.prefix.now c.args.end.now c.args.text.now c.strip_prefix.result c.in-Some.rest c.strip_prefix.ensures.cases c.in-Some.is

pub returns-in-None : goal.returns-in-None
returns-in-None c = joined_nowhere c.args.prefix.now c.args.end.now c.args.text.now c.strip_prefix.result c.strip_prefix.ensures.cases c.in-None.is
