-- For private clauses: where a name stands among the members of an object.
use Rattle.std.specs.Prelude.{ℕ, suc, List, if◌then◌else◌, Option, Some, None, option_map}
use Rattle.std.specs.Str.{bytes_eq}
use Rattle.json.specs.Json.{Members, no_members, member}

-- the first place of the name
abbrev pub place_of : List ℕ → Members → Option ℕ
place_of k no_members = None
place_of k (member l j ms) = if bytes_eq k l then Some 0 else option_map suc (place_of k ms)
