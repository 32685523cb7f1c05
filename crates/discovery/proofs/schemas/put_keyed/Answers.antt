use Rattle.std.proofs.lemmas.Result.{on_ok_weaker}
use Rattle.discovery.proofs.Appended.{then_added}
use Rattle.discovery.proofs.schemas.put_keyed.Goals as goal

pub returns : goal.returns
returns c =
    let w0 = c.args.writer.now in
    let w1 = c.put.new.writer in
    let w2 = c.put_names.new.writer in
    let w3 = c.put_list_type.new.writer in
    on_ok_weaker c.put_list_type.result (λ ended. then_added _ _ w0 w1 w3 c.in_ok-put.ensures (then_added _ _ w1 w2 w3 c.in_ok-put_names.ensures ended)) c.put_list_type.ensures
