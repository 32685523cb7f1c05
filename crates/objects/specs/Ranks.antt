-- Where a key belongs among entries, and whether entries stand in order.
use Rattle.std.specs.Prelude.{ℕ, suc, Bool, true, not, ◌&&◌, List, [], ◌∷◌}
use Rattle.std.specs.List.{list_all}
use Rattle.std.specs.Ordering.{is_lt, match_ordering}
use Rattle.pathmap.specs.Beside.{is_empty}
use Rattle.pathmap.specs.Contents.{PathSet}
use Rattle.objects.specs.Owners.{Manager, manager_cmp}

-- how many entries stand before the key's place
abbrev pub rank : Manager → List (Manager × PathSet) → ℕ
rank k [] = 0
rank k (e ∷ es) = match_ordering (manager_cmp k e.0) 0 0 (suc (rank k es))

-- each manager above the one before it
abbrev pub rising_from : Manager → List (Manager × PathSet) → Bool
rising_from k [] = true
rising_from k (e ∷ es) = is_lt (manager_cmp k e.0) && rising_from e.0 es

abbrev pub rising : List (Manager × PathSet) → Bool
rising [] = true
rising (e ∷ es) = rising_from e.0 es

abbrev pub have_paths : List (Manager × PathSet) → Bool
have_paths es = list_all (λ e. not (is_empty e.1)) es
