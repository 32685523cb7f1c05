use Rattle.std.proofs.Common.{rules}
use Rattle.server_program.proofs.creations.path_of.Goals as goal

pub returns-clause-ok : goal.returns-clause-ok
returns-clause-ok c = record {
  version = c.in-Some.api_version.now;
  namespace = c.in-Some-namespace_of.namespace.now;
  plural = c.in-Some.plural.now;
  names_version = search rules;
  names_namespace = search rules;
  is = search rules;
}
