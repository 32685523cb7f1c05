-- Names that are made of a prefix, `generateName`, and a number (Kubernetes API conventions, "Metadata").
use Rattle.std.specs.Prelude.{ℕ, zero, suc, ◌+◌, ◌-◌, Bool, ◌&&◌, ◌==◌, nat_le, if◌then◌else◌, List, ◌++◌, length, take, slice_index, Option, Some, None, codes}
use Rattle.std.specs.Option.{option_or}
use Rattle.std.specs.Fmt.{is_char_start}
use Rattle.names.specs.Names.{is_dns_subdomain}
use Rattle.system_metadata.specs.Digits.{last_digits}

-- a letter begins at this place, or the text ends there
abbrev pub is_border : List ℕ → ℕ → Bool
is_border text place = nat_le place (length text) && is_char_start (slice_index text place)

-- the last border up to a place
unfoldable pub border : List ℕ → ℕ → ℕ
border text zero = 0
border text (suc place) = if is_border text (suc place) then suc place else border text place

-- the prefix up to its last border in 58 bytes, and the last five digits of the number to the base 27
abbrev pub generated_name : List ℕ → ℕ → List ℕ
generated_name prefix number =
    take (border prefix 58) prefix ++ last_digits (codes "bcdfghjklmnpqrstvwxz2456789") 5 number

-- the name of a number, unless it is taken
abbrev pub name_if_free : (List ℕ → Bool) → List ℕ → ℕ → Option (List ℕ)
name_if_free is_taken prefix number =
    if is_taken (generated_name prefix number) then None else Some (generated_name prefix number)

-- the first of so many names from a number on that isn't taken
unfoldable pub first_free : (List ℕ → Bool) → List ℕ → ℕ → ℕ → Option (List ℕ)
first_free is_taken prefix number zero = None
first_free is_taken prefix number (suc count) =
    option_or (name_if_free is_taken prefix number) (first_free is_taken prefix (number + 1) count)

-- that of the whole round, 27 to the fifth: there are no more names of a prefix
abbrev pub free_name : (List ℕ → Bool) → List ℕ → ℕ → Option (List ℕ)
free_name is_taken prefix number = first_free is_taken prefix number 14_348_907

-- the text without a '-' at its end
abbrev pub without_dash : List ℕ → List ℕ
without_dash text = if slice_index text (length text - 1) == 45 then take (length text - 1) text else text

-- a name, or a name and '-', of at most 253 bytes
abbrev pub is_name_prefix : List ℕ → Bool
is_name_prefix text = nat_le (length text) 253 && is_dns_subdomain (without_dash text)
