-- When the client's revision is reported, by the one before.
use Rattle.std.specs.Prelude.{ℕ, Bool, true, nat_lt, Option, Some, None}

-- it is the first, or has risen
abbrev pub is_due : Option ℕ → ℕ → Bool
is_due None now = true
is_due (Some was) now = nat_lt was now
