-- Lengths in digits: decimal ones, as a Content-Length has them (RFC 9110, section 8.6), and hexadecimal ones, of chunks (RFC 9112, section 7.1).
use Rattle.std.specs.Prelude.{◌≡◌, ◌<◌, ◌≤◌, ℕ, ◌+◌, ◌-◌, ◌*◌, Bool, true, false, if◌then◌else◌, List, [], ◌∷◌, length, Option, Some, None}
use Rattle.std.specs.Char.{is_ascii_digit, is_ascii_hexdigit}
use Rattle.std.specs.Fmt.{digits}
use Rattle.std.specs.List.{list_all}
use Rattle.std.specs.Str.Parse.{digits_value}

-- ---- decimal

-- the number that digits write, after those that make n
abbrev pub number_after : ℕ → List ℕ → ℕ
number_after n [] = n
number_after n (b ∷ bytes) = number_after (n * 10 + (b - 48)) bytes

abbrev pub decimal_value : List ℕ → ℕ
decimal_value ds = number_after 0 ds

-- one or more digits
abbrev pub is_length : List ℕ → Bool
is_length [] = false
is_length (b ∷ bytes) = list_all is_ascii_digit (b ∷ bytes)

-- the number that a value says, if it is a length
abbrev pub length_in : List ℕ → Option ℕ
length_in value = if is_length value then Some (decimal_value value) else None

-- ---- hexadecimal

-- in lower case, without leading zeros
abbrev pub hexadecimal : ℕ → List ℕ
hexadecimal n = digits 16 false n

-- 1 to 16 hexadecimal digits of either case that write n
pub record IsSize (ds : List ℕ) (n : ℕ) : Type 0 where
  pub are_digits : list_all is_ascii_hexdigit ds ≡ true
  pub some : 0 < length ds
  pub few : length ds ≤ 16
  pub value : digits_value 16 ds ≡ n
