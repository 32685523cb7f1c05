use Rattle.std.proofs.Common.{arith, sym}
use Rattle.std.proofs.lemmas.List.{drop_all}
use Rattle.requests.proofs.asking.bytes_after.Goals as goal

pub returns-else-count-bytes : goal.returns-else-count-bytes
returns-else-count-bytes c =
    let over = c.if-count-bytes.false in
    sym (drop_all c.args.count c.args.bytes.now (omega (arith, over)))
