-- When something happened: whole seconds after 1970-01-01T00:00:00Z, and how they are written (RFC 3339, sections 5.6 and 4.3).
use Rattle.std.specs.Prelude.{◌≡◌, ℕ, zero, suc, ◌+◌, ◌-◌, ◌*◌, ◌/◌, ◌%◌, nat_le, Bool, if◌then◌else◌, min, pos, List, ◌++◌, codes}
use Rattle.jiff.specs.Types.{DateTime}
use Rattle.jiff.specs.Words.{civil_nanos, days_in_month, days_in_year, iso_datetime_text}
use Rattle.system_metadata.specs.Digits.{last_digits}

-- 9999-12-30T22:00:00Z, the last second that is written
abbrev pub last_second : ℕ
last_second = 253_402_207_200

-- the second of an event: as many milliseconds after the epoch as the last tick before it says, without the part of a second
abbrev pub second_at : ℕ → ℕ → ℕ
second_at epoch milliseconds = min (epoch + milliseconds / 1000) last_second

-- the last number up to a bound that satisfies p
unfoldable pub last_such : (ℕ → Bool) → ℕ → ℕ
last_such p zero = 0
last_such p (suc n) = if p (suc n) then suc n else last_such p n

-- the days of the first years from 1970 on, and of the first months of a year
unfoldable pub days_of_years : ℕ → ℕ
days_of_years zero = 0
days_of_years (suc n) = days_of_years n + days_in_year (pos (1970 + n))

unfoldable pub days_of_months : ℕ → ℕ → ℕ
days_of_months year zero = 0
days_of_months year (suc n) = days_of_months year n + days_in_month (pos year) (suc n)

-- of a day, counted from 1970-01-01: its year, how many days of that are over, how many months, and which day of the month it is
abbrev pub year_of : ℕ → ℕ
year_of day = 1970 + last_such (λ n. nat_le (days_of_years n) day) (day / 365)

abbrev pub days_over : ℕ → ℕ
days_over day = day - days_of_years (year_of day - 1970)

abbrev pub months_over : ℕ → ℕ
months_over day = last_such (λ n. nat_le (days_of_months (year_of day) n) (days_over day)) 11

abbrev pub day_of_month : ℕ → ℕ
day_of_month day = suc (days_over day - days_of_months (year_of day) (months_over day))

abbrev pub digits : ℕ → ℕ → List ℕ
digits = last_digits (codes "0123456789")

abbrev pub date_of : ℕ → List ℕ
date_of day = digits 4 (year_of day) ++ codes "-" ++ digits 2 (suc (months_over day)) ++ codes "-" ++ digits 2 (day_of_month day)

-- the time of day, by the seconds that are over
abbrev pub time_of : ℕ → List ℕ
time_of seconds = digits 2 (seconds / 3600) ++ codes ":" ++ digits 2 (seconds / 60 % 60) ++ codes ":" ++ digits 2 (seconds % 60)

-- the text of a second: date and time of day at UTC, and `Z`
abbrev pub moment_text : ℕ → List ℕ
moment_text second = date_of (second / 86_400) ++ codes "T" ++ time_of (second % 86_400) ++ codes "Z"

-- that a text is what jiff's clock at UTC shows at the second, and `Z`
abbrev pub IsMoment : ℕ → List ℕ → Type 0
IsMoment second text =
    (shown : DateTime) × (civil_nanos shown ≡ pos (second * 1_000_000_000)) × (text ≡ iso_datetime_text shown ++ codes "Z")
