use Rattle.std.proofs.Common.{◌≡◌, ◌≤◌, length, map, option_map, take}
use Rattle.history.specs.Read.{change_of}
use Rattle.revstore.proofs.Latest.{asked}
use Rattle.revstore.proofs.window.found_among.Given as goal

-- of the changes so far, those that are asked for are found
abbrev pub invariant-loop-latest : goal.invariant-loop-latest
invariant-loop-latest l = (map change_of l.found.items ≡ asked l.kind (option_map (λ b. b.now) l.namespace) l.after (take l.latest-index l.all)) × (length l.found.items ≤ l.max)
