-- When two values are equal (RFC 6902, section 4.6).
use Rattle.std.specs.Prelude.{ℕ, ◌==◌, ◌&&◌, pos, nat_abs, Bool, true, false, Option, Some, None, option_map, unwrap_or, is_some}
use Rattle.std.specs.Bool.{beq}
use Rattle.std.specs.Float.{Float, fin}
use Rattle.std.specs.Float.Ieee.{eq}
use Rattle.std.specs.Str.{bytes_eq}
use Rattle.serde_json.specs.Data.{Num, unsigned, negative, float, Data, null, boolean, number, string, array, object, Items, no_items, item, Members, no_members, member}
use Rattle.serde_json.specs.Events.{members_len}
use Rattle.serde_json.specs.Find.{to_float, get_member, as_null, as_bool, as_number, as_str, as_array, as_object}

-- an integer's sign (true where it is negative) and size
abbrev pub integer : Num → Option (Bool × ℕ)
integer (unsigned n) = Some (false, n)
integer (negative z) = Some (true, nat_abs z)
integer (float x) = None

-- `fin s m e` is m * 2 ^ e, negative where s is true
abbrev pub whole : Bool × ℕ → Float
whole i = fin i.0 i.1 (pos 0)

-- A number's value, exactly. Of a number with a point or an exponent, or past 64 bits, a value keeps the nearest float, and
-- no more of its text.
abbrev pub exact : Num → Float
exact n = unwrap_or (option_map whole (integer n)) (to_float n)

-- numerically equal, as 1 and 1.0 are
abbrev pub same_number : Num → Num → Bool
same_number a b = eq (exact a) (exact b)

-- there is one, and it passes
abbrev pub holds : {A : Type 0} → (A → Bool) → Option A → Bool
holds p o = unwrap_or (option_map p o) false

abbrev mutual
  pub same : Data → Data → Bool
  same null e = is_some (as_null e)
  same (boolean b) e = holds (beq b) (as_bool e)
  same (number n) e = holds (same_number n) (as_number e)
  same (string s) e = holds (bytes_eq s) (as_str e)
  same (array ds) e = holds (same_items ds) (as_array e)
  same (object ms) e = holds (λ ns. (members_len ms == members_len ns) && have_members ms ns) (as_object e)

  -- as many items, each equal to the one at its place
  pub same_items : Items → Items → Bool
  same_items no_items no_items = true
  same_items no_items (item e es) = false
  same_items (item d ds) no_items = false
  same_items (item d ds) (item e es) = same d e && same_items ds es

  -- for each of the first ones there is one of its name among the others, with an equal value
  pub have_members : Members → Members → Bool
  have_members no_members ns = true
  have_members (member k d ms) ns = holds (same d) (get_member k ns) && have_members ms ns
