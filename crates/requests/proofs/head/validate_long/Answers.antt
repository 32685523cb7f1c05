use Rattle.std.proofs.Common.{rules, ap, inr}
use Rattle.requests.specs.Decision.{refused}
use Rattle.requests.proofs.RequestTargets.{method_text, path_text}
use Rattle.requests.proofs.Whole.{none_at_all}
use Rattle.requests.proofs.head.validate_long.Goals as goal

pub validated-requires-clause-method_text : goal.validated-requires-clause-method_text
validated-requires-clause-method_text c = method_text c.args.head.now c.parts_of.new.spans c.in-Some.parts c.in-Some.ensures.whole

pub validated-requires-clause-path_text : goal.validated-requires-clause-path_text
validated-requires-clause-path_text c = path_text c.args.head.now c.parts_of.new.spans c.in-Some.parts c.in-Some.ensures.whole

pub returns-in-None-clause-says : goal.returns-in-None-clause-says
returns-in-None-clause-says c = inr (none_at_all c.args.head.now _ c.requires (search rules) (c.parts_of.ensures.none c.in-None.is), ap refused c.denied.ensures)
