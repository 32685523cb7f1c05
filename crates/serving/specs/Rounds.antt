-- One connection after another, each with what is done after it.
use Rattle.std.specs.Prelude.{◌≡◌, ℕ, zero, suc, List}
use Rattle.httpedge.specs.Steps.{State}
use Rattle.serving.specs.Tidies.{Tidies}
use Rattle.serving.specs.Turns.{Turns}

-- a connection has its turn, and then it is tidied
abbrev pub Round : ℕ → ℕ → State → State → Type 0
Round keep lines s t =
    (id : ℕ) × (received : List ℕ) × (sent_bytes : List ℕ) × (ids : List ℕ) × (ms : ℕ) × (served : State) × Turns id s received sent_bytes served × Tidies keep lines ids ms served t

abbrev pub Rounds : ℕ → ℕ → ℕ → State → State → Type 0
Rounds keep lines zero s t = t ≡ s
Rounds keep lines (suc n) s t = (mid : State) × Rounds keep lines n s mid × Round keep lines mid t
