-- What is done after each connection, in this order: the clock's tick, a compaction where it raises the compacted number, and the turn of each watch. So a
-- watch that the compaction overtook is sent an error.
use Rattle.std.specs.Prelude.{◌≡◌, ℕ, List, [], ◌∷◌}
use Rattle.httpedge.specs.Steps.{State, pumps, ticks}
use Rattle.httpedge.specs.StreamViews.{Compacts, Hands}
use Rattle.serving.specs.Turns.{Turns}

-- a watch may write so many lines, and then has its turn
abbrev pub Pumps : ℕ → ℕ → State → State → Type 0
Pumps lines id s t = (mid : State) × (sent_bytes : List ℕ) × Hands (pumps id lines) s mid × Turns id mid [] sent_bytes t

-- one after another
abbrev pub PumpsAll : ℕ → List ℕ → State → State → Type 0
PumpsAll lines [] s t = t ≡ s
PumpsAll lines (id ∷ ids) s t = (mid : State) × Pumps lines id s mid × PumpsAll lines ids mid t

abbrev pub Tidies : ℕ → ℕ → List ℕ → ℕ → State → State → Type 0
Tidies keep lines ids ms s t = (ticked : State) × (compacted : State) × Hands (ticks ms) s ticked × Compacts keep ticked compacted × PumpsAll lines ids compacted t
