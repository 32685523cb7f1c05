use Rattle.api_types.specs.Served.{types_view}
use Rattle.verbs.proofs.Machines.{machines_begin}
use Rattle.verbs.proofs.api.Api.new_at.Goals as goal

pub returns-clause-represents : goal.returns-clause-represents
returns-clause-represents c = record {
  is_machine = machines_begin (types_view c.args.types) c.args.revision c.types_are_of_objects.ensures c.requires.from c.requires.to;
  serves = c.in_ok-catalog.ensures;
  store = c.in_ok-routes.ensures.store;
  unicode = tt;
}
