-- How many of a connection's bytes are its request: the fewest that decide what it asks (RFC 9112, sections 2.1 and 6.3). Those behind them are no part of it.
use Rattle.std.specs.Prelude.{◌≡◌, ◌≢◌, ◌≤◌, ◌<◌, ◌+◌, ℕ, List, ◌++◌, length, take}
use Rattle.api_types.specs.TypesFile.{ServedShape}
use Rattle.requests.specs.Asks.{CallDecision, Asks}
use Rattle.requests.specs.Decision.{undecided}

-- it is decided what these bytes ask
abbrev pub Decides : List ServedShape → List ℕ → Type 0
Decides types bytes = (asked : CallDecision) × Asks types bytes asked × (asked ≢ undecided)

-- the first n of these bytes decide what they ask, and no fewer do
pub record IsRequestSize (types : List ServedShape) (bytes : List ℕ) (n : ℕ) : Type 0 where
  pub within : n ≤ length bytes
  pub decides : Decides types (take n bytes)
  pub fewer : (m : ℕ) → m < n → Asks types (take m bytes) undecided

-- whatever bytes follow these: once n have come, they are the request
abbrev pub HasRequestSize : List ServedShape → List ℕ → ℕ → Type 0
HasRequestSize types bytes n = (more : List ℕ) → n ≤ length (bytes ++ more) → IsRequestSize types (bytes ++ more) n

-- ---- words of private clauses

-- n bytes after the head decide, and no fewer do
abbrev pub DecidesAt : (List ℕ → CallDecision) → ℕ → Type 0
DecidesAt f n = ((rest : List ℕ) → length rest < n → f rest ≡ undecided) × ((rest : List ℕ) → n ≤ length rest → f rest ≢ undecided)

-- so many bytes are the request, whose head has this many and asks by the bytes after it what f says
abbrev pub IsSizedBy : (List ℕ → CallDecision) → ℕ → ℕ → Type 0
IsSizedBy f head size = (n : ℕ) × (size ≡ head + n) × DecidesAt f n
