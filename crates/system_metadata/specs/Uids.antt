-- What tells objects apart: UUIDs of version 8 (RFC 9562, sections 4 and 5.8).
use Rattle.std.specs.Prelude.{ℕ, ◌/◌, ◌^◌, List, ◌++◌, codes}
use Rattle.system_metadata.specs.Digits.{last_digits}

-- the last hexadecimal digits of a number, so many
abbrev pub hex : ℕ → ℕ → List ℕ
hex = last_digits (codes "0123456789abcdef")

-- 12 digits of the epoch's seconds and 18 of the revision, with the version before the first three of these and the variant
-- before the next three
abbrev pub uid : ℕ → ℕ → List ℕ
uid epoch revision =
    hex 8 (epoch / 16 ^ 4) ++ codes "-" ++ hex 4 epoch ++ codes "-8" ++ hex 3 (revision / 16 ^ 15)
    ++ codes "-8" ++ hex 3 (revision / 16 ^ 12) ++ codes "-" ++ hex 12 revision
