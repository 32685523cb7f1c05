use Rattle.std.proofs.Common.{◌≡◌, map, [], ◌∷◌, ◌++◌, true}
use Rattle.std.specs.Vec.Iter.{into_iter_items}
use Rattle.serving.specs.Rising.{are_rising}
use Rattle.serving.specs.ServerViews.{limits_of, next_of, watches_of}
use Rattle.httpedge.specs.StreamViews.{MovesBy}
use Rattle.serving.specs.Tidies.{PumpsAll}
use Rattle.serving.proofs.server.Server.pump_watches.Given as goal

abbrev pub invariant-loop-watch : goal.invariant-loop-watch
invariant-loop-watch g l = MovesBy (PumpsAll l.lines (map (λ w. w.0) l.yielded)) l.fn.self.hub l.self.hub × (limits_of l.self ≡ limits_of l.fn.self)
    × (are_rising (watches_of l.self ++ (map (λ w. w.0) (into_iter_items l.watch-iterator) ++ next_of l.self ∷ [])) ≡ true)
    × (next_of l.self ≡ next_of l.fn.self)
