-- Ids in their order.
use Rattle.std.specs.Prelude.{ℕ, Bool, true, ◌&&◌, nat_lt, List, [], ◌∷◌}
use Rattle.std.specs.List.{list_all}

-- each is below those behind it
abbrev pub are_rising : List ℕ → Bool
are_rising [] = true
are_rising (id ∷ ids) = list_all (nat_lt id) ids && are_rising ids
