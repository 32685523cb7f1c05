use Rattle.requests.proofs.RequestTargets.{method_text, path_text}
use Rattle.requests.proofs.head.validate.Goals as goal

pub validated-requires-clause-method_text : goal.validated-requires-clause-method_text
validated-requires-clause-method_text c = method_text c.args.head.now c.parts_of.new.spans c.in-Some.parts c.in-Some.ensures.whole

pub validated-requires-clause-path_text : goal.validated-requires-clause-path_text
validated-requires-clause-path_text c = path_text c.args.head.now c.parts_of.new.spans c.in-Some.parts c.in-Some.ensures.whole
