use Rattle.std.proofs.Common.{◌≡◌, map, drop, string_bytes}
use Rattle.serde_json.specs.View.{view}
use Rattle.json_patch.specs.Places.{find}
use Rattle.json_patch.proofs.places.find.Given as goal

abbrev pub invariant-loop-token : goal.invariant-loop-token
invariant-loop-token l = find (map string_bytes (drop l.token-index l.tokens)) (view l.found) ≡ find (map string_bytes l.tokens) (view l.fn.value)
