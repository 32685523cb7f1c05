-- What laws promise of moments.
use Rattle.std.specs.Prelude.{◌≡◌, ◌≤◌, ℕ, List}
use Rattle.system_metadata.specs.Moments.{last_second, second_at, IsMoment, moment_text}

-- of one epoch, a later tick has no earlier second
abbrev pub NeverFalls : Type 0
NeverFalls = (epoch before after : ℕ) → before ≤ after → second_at epoch before ≤ second_at epoch after

-- a second has one text
abbrev pub IsOneText : Type 0
IsOneText = (second : ℕ) (a b : List ℕ) → IsMoment second a → IsMoment second b → a ≡ b

-- and the text of a second is what a clock shows
abbrev pub IsShownSo : Type 0
IsShownSo = (second : ℕ) → second ≤ last_second → IsMoment second (moment_text second)
