use Rattle.std.proofs.Common.{◌∙◌}
use Rattle.history.specs.History.{fresh}
use Rattle.api_types.specs.Served.{types_view}
use Rattle.world.proofs.Ids.{no_ids}
use Rattle.world.proofs.server.Server.new_at.Goals as goal

pub returns-clause-serves : goal.returns-clause-serves
returns-clause-serves c =
    let types = types_view c.args.types in
    (c.new.ensures types (fresh c.args.revision) c.in_ok-new_at.ensures.represents, c.new-2.ensures.items ∙ no_ids types (fresh c.args.revision))
