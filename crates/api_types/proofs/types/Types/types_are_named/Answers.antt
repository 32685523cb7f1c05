use Rattle.api_types.specs.Served.{types_view}
use Rattle.api_types.proofs.Naming.{named_all, named_parts}
use Rattle.api_types.proofs.Numbering.{number_found}
use Rattle.api_types.proofs.types.Types.types_are_named.Goals as goal

pub returns-clause-lawful : goal.returns-clause-lawful
returns-clause-lawful c = named_all (types_view c.args.self.now) c.args.self.now.named

pub returns-clause-apart : goal.returns-clause-apart
returns-clause-apart c = (named_parts (types_view c.args.self.now) c.args.self.now.named).1

pub returns-clause-numbered : goal.returns-clause-numbered
returns-clause-numbered c = λ k t at. number_found (types_view c.args.self.now) k t (named_parts (types_view c.args.self.now) c.args.self.now.named).1 at
