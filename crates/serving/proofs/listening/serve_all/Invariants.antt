use Rattle.std.proofs.Common.{◌≡◌, ◌+◌}
use Rattle.serving.specs.ServerViews.{hub_of, limits_of, next_of}
use Rattle.serving.specs.Serving.{DoesRounds, Reaches}
use Rattle.serving.proofs.listening.serve_all.Given as goal

abbrev pub invariant-connections : goal.invariant-connections
invariant-connections g l =
    Reaches (hub_of l.fn.server) (hub_of l.server) × (limits_of l.server ≡ limits_of l.fn.server) × DoesRounds (limits_of l.fn.server) (hub_of l.fn.server) (hub_of l.server)
    × (next_of l.server + l.left ≡ next_of l.fn.server + l.fn.most)
