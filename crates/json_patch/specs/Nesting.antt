-- How deep a patch may nest values. Whoever walks through a value goes as deep as it nests, so that is bounded at each
-- operation, and not at what comes out alone.
use Rattle.std.specs.Prelude.{ℕ, ◌+◌, nat_le, length, Bool}
use Rattle.serde_json.specs.Data.{Data, depth}
use Rattle.json_patch.specs.Pointers.{Pointer}

abbrev pub nesting_limit : ℕ
nesting_limit = 1_000

-- the tokens that lead to a value, and how deep arrays and objects nest in it
abbrev pub nests : Pointer → Data → Bool
nests path d = nat_le (length path + depth d) nesting_limit
