use Rattle.std.proofs.Common.{◌≡◌, ◌+◌, ◌≤◌, length, map, ap, sym, subst, ◌∙◌, arith}
use Rattle.std.proofs.lemmas.List.{length-map}
use Rattle.history.specs.History.{current_objects, last_revision}
use Rattle.history.specs.Read.{write_of}
use Rattle.history.specs.Whole.{AreThere}
use Rattle.history.specs.Writes.{changes_by}
use Rattle.revstore.specs.Waiting.{waiting_of}
use Rattle.revstore.proofs.batched.write_waiting.Goals as goal

pub put_all-requires-clause-fit : goal.put_all-requires-clause-fit
put_all-requires-clause-fit c =
    let these : map write_of c.as_slice.result.now ≡ waiting_of c.args.all.now = ap (map write_of) c.as_slice.ensures.value ∙ c.in_ok-writes.ensures in
    let can : c.args.table.now.current + length (waiting_of c.args.all.now) ≤ last_revision = c.requires.0 in
    let same : length (map write_of c.as_slice.result.now) ≡ length (waiting_of c.args.all.now) = ap length these in
    omega (arith, can, same, length-map c.as_slice.result.now write_of)

pub put_all-requires-clause-there : goal.put_all-requires-clause-there
put_all-requires-clause-there c =
    let these : map write_of c.as_slice.result.now ≡ waiting_of c.args.all.now = ap (map write_of) c.as_slice.ensures.value ∙ c.in_ok-writes.ensures in
    subst (λ ws. AreThere (current_objects c.args.table.now) (changes_by c.args.table.now.current ws)) (sym these) c.requires.1
