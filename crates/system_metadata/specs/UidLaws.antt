-- What laws promise of uids.
use Rattle.std.specs.Prelude.{◌≡◌, ◌≤◌, ℕ}
use Rattle.system_metadata.specs.Moments.{last_second}
use Rattle.system_metadata.specs.Uids.{uid}

-- an epoch and a revision as servers have them: a second that is written, and a signed integer of 64 bits
abbrev pub IsOfServer : ℕ → ℕ → Type 0
IsOfServer epoch revision = (epoch ≤ last_second) × (revision ≤ 9223372036854775807)

-- one uid, one epoch and one revision
abbrev pub AreApart : Type 0
AreApart =
    (epoch revision other_epoch other_revision : ℕ) → IsOfServer epoch revision → IsOfServer other_epoch other_revision
    → uid epoch revision ≡ uid other_epoch other_revision → (epoch ≡ other_epoch) × (revision ≡ other_revision)
