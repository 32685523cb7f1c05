use Rattle.std.proofs.Common.{◌≡◌, drop, map, string_bytes}
use Rattle.std.specs.List.{list_any}
use Rattle.std.specs.Str.{bytes_eq}
use Rattle.schema.specs.KeyNames.{names_in}
use Rattle.schema.proofs.step.is_key.Given as goal

-- what is found of the names that are left is what is found of all, in order
abbrev pub invariant-loop-known : goal.invariant-loop-known
invariant-loop-known l = list_any (bytes_eq l.name) (map string_bytes (drop l.known-index l.names)) ≡ list_any (bytes_eq l.name) (names_in l.names)
