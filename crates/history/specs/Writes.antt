-- Several writes, one after the other: each is a key and what is written there.
use Rattle.std.specs.Prelude.{ℕ, suc, List, [], ◌∷◌, Option}
use Rattle.history.specs.History.{Key, Change, History, written}
use Rattle.history.specs.View.{View, written_in}

-- the changes that they make, the first of the revision after this one
abbrev pub changes_by : ℕ → List (Key × Option (List ℕ)) → List Change
changes_by r [] = []
changes_by r (w ∷ ws) = record { revision = suc r; key = w.0; body = w.1 } ∷ changes_by (suc r) ws

-- each written in turn
abbrev pub written_all : History → List (Key × Option (List ℕ)) → History
written_all h [] = h
written_all h (w ∷ ws) = written_all (written h w.0 w.1) ws

-- the same, of a view
abbrev pub written_all_in : View → List (Key × Option (List ℕ)) → View
written_all_in v [] = v
written_all_in v (w ∷ ws) = written_all_in (written_in v w.0 w.1) ws
