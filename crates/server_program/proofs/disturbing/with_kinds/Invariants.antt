use Rattle.std.proofs.Common.{◌≡◌, map, drop}
use Rattle.server_program.specs.Disturbing.{with_kinds}
use Rattle.server_program.proofs.disturbing.with_kinds.Given as goal

abbrev pub invariant-loop-name : goal.invariant-loop-name
invariant-loop-name l = with_kinds l.asked (map (λ name. name.now) (drop l.name-index l.names)) ≡ with_kinds l.fn.of_seed (map (λ name. name.now) l.names)
