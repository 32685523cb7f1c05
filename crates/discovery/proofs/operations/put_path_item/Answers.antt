use Rattle.std.proofs.lemmas.Result.{on_ok_weaker}
use Rattle.discovery.proofs.Appended.{then_added}
use Rattle.discovery.proofs.operations.put_path_item.Goals as goal

pub returns : goal.returns
returns c =
    let w0 = c.args.writer.now in
    let w1 = c.put.new.writer in
    let w2 = c.put_patch.new.writer in
    let w3 = c.put_path_parameters.new.writer in
    on_ok_weaker c.put_path_parameters.result (λ ended. then_added _ _ w0 w1 w3 c.in_ok-put.ensures (then_added _ _ w1 w2 w3 c.in_ok-put_patch.ensures ended)) c.put_path_parameters.ensures
