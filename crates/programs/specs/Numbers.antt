-- Options that take numbers, and what their texts say.
use Rattle.std.specs.Prelude.{◌≡◌, ◌≤◌, ◌∷◌, [], ℕ, ◌==◌, if◌then◌else◌, Option, Some, None, Result, Ok, true, codes, unwrap_or}
use Rattle.std.specs.Str.Parse.{ParsesUnsigned}
use Rattle.clap.specs.Words.{Rule, Text, new_rule}
use Rattle.clap.specs.declared.builder.action.ArgAction.TheVariants.{Set}

-- `--<name> N`, with a default or else required
abbrev pub number_option : Option Text → Text → Rule
number_option (Some default) name = record (new_rule name) { long = Some name; action = Some Set; value_names = 1; defaults = default ∷ [] }
number_option None name = record (new_rule name) { long = Some name; action = Some Set; value_names = 1; required = true }

abbrev parsed : ℕ → Result ℕ ℕ
parsed n = Ok n

-- the number that the text tells in decimal digits, below 2^64
abbrev pub IsNumber : Text → ℕ → Type 0
IsNumber text n = ParsesUnsigned 64 10 text (parsed n)

-- where there is no text, the default's
abbrev pub IsNumberOr : Text → Option Text → ℕ → Type 0
IsNumberOr default text n = IsNumber (unwrap_or text default) n

-- the same, where there may be no default
abbrev pub IsNumberBy : Option Text → Option Text → ℕ → Type 0
IsNumberBy (Some default) text n = IsNumberOr default text n
IsNumberBy None (Some text) n = IsNumber text n
IsNumberBy None None n = ⊥

-- the number that a text tells, where it tells one
abbrev pub IsRead : Text → Option ℕ → Type 0
IsRead text (Some n) = IsNumber text n
IsRead text None = (n : ℕ) → IsNumber text n → ⊥

abbrev pub IsReadBy : Option Text → Option Text → Option ℕ → Type 0
IsReadBy default text (Some n) = IsNumberBy default text n
IsReadBy default text None = (n : ℕ) → IsNumberBy default text n → ⊥

-- from the least to the most that an option may be
abbrev pub IsNumberIn : Option Text → Option Text → ℕ → ℕ → ℕ → Type 0
IsNumberIn default text least most n = IsNumberBy default text n × (least ≤ n) × (n ≤ most)

-- how many of a thing there are: 0 stands for the highest number
abbrev pub count_of : ℕ → ℕ
count_of n = if n == 0 then 18446744073709551615 else n

-- a count by a text, or else 0
abbrev pub IsCount : Option Text → ℕ → Type 0
IsCount text n = (k : ℕ) × IsNumberOr (codes "0") text k × (n ≡ count_of k)
