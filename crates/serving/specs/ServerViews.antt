-- What callers see of a server of one connection after another.
use Rattle.std.specs.Prelude.{ℕ, ◌+◌, Bool, true, false, List, [], ◌∷◌, ◌++◌, map}
use Rattle.httpedge.specs.declared.hub.Hub.{Hub}
use Rattle.serving.specs.declared.server.Limits.{Limits}
use Rattle.serving.specs.declared.server.Server.{Server}

abbrev pub hub_of : {W : Type 0} → Server W → Hub
hub_of server = server.hub

abbrev pub limits_of : {W : Type 0} → Server W → Limits
limits_of server = server.limits

-- the id that the next connection gets
abbrev pub next_of : {W : Type 0} → Server W → ℕ
next_of server = server.highest + 1

-- the watches whose streams it keeps, in the order in which they opened
abbrev pub watches_of : {W : Type 0} → Server W → List ℕ
watches_of server = map (λ w. w.0) server.watches.items

-- these, and this one behind them where its stream is kept
abbrev pub with_kept : Bool → ℕ → List ℕ → List ℕ
with_kept true id ids = ids ++ id ∷ []
with_kept false id ids = ids
