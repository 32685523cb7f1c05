-- For private clauses: whole numbers, told from floats before a float is computed.
use Rattle.std.specs.Prelude.{◌^◌, ◌&&◌, Bool, true, false, nat_lt, nat_le, if◌then◌else◌, Option, Some, None}
use Rattle.fast_float.specs.Text.{Parts, digits_of, with_sign}
use Rattle.serde_json.specs.Data.{Num, unsigned, negative}
use Rattle.serde_json.specs.Find.{is_float}
use Rattle.serde_json.specs.Read.{is_integer}

-- a number, unless it is a float
abbrev pub unless_float : Option Num → Option Num
unless_float None = None
unless_float (Some n) = if is_float n then None else Some n

-- the whole number within 64 bits that a numeral has behind its sign; `-0` is a float
abbrev pub whole_from : Bool → Parts → Option Num
whole_from false p = if is_integer p && nat_lt (digits_of p) (2 ^ 64) then Some (unsigned (digits_of p)) else None
whole_from true p = if is_integer p && nat_lt 0 (digits_of p) && nat_le (digits_of p) (2 ^ 63) then Some (negative (with_sign true (digits_of p))) else None
