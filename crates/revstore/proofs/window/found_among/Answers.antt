use Rattle.std.proofs.Common.{option_map, length, map, ◌≤◌, arith}
use Rattle.std.proofs.lemmas.List.{length-map}
use Rattle.history.specs.Read.{change_of}
use Rattle.revstore.proofs.Latest.{asked_full}
use Rattle.revstore.proofs.window.found_among.Goals as goal

pub returns-then-len-max : goal.returns-then-len-max
returns-then-len-max c =
    let found = c.loop-latest.found.items in
    let same = length-map found change_of in
    let few : length (map change_of found) ≤ c.args.max = omega (arith, same, c.loop-latest.invariant.1) in
    let enough : c.args.max ≤ length (map change_of found) = omega (arith, same, c.if-len-max.true, c.len.ensures, c.loop-latest.found.ok.0) in
    asked_full c.args.kind (option_map (λ b. b.now) c.args.namespace) c.args.after c.args.max c.args.all.now c.loop-latest.latest-index (map change_of found) c.loop-latest.invariant.0 few enough
