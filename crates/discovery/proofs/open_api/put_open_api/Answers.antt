use Rattle.std.proofs.lemmas.Result.{on_ok_weaker}
use Rattle.discovery.proofs.Appended.{then_added}
use Rattle.discovery.proofs.open_api.put_open_api.Goals as goal

pub returns : goal.returns
returns c =
    let w0 = c.args.writer.now in
    let w1 = c.begin.new.writer in
    let w2 = c.put_paths.new.writer in
    let w3 = c.put_components.new.writer in
    on_ok_weaker c.put_components.result (λ ended. then_added _ _ w0 w1 w3 c.in_ok-begin.ensures (then_added _ _ w1 w2 w3 c.in_ok-put_paths.ensures ended)) c.put_components.ensures
