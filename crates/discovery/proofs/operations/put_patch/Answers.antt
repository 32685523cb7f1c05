use Rattle.std.proofs.lemmas.Result.{on_ok_weaker}
use Rattle.discovery.proofs.Appended.{then_added}
use Rattle.discovery.proofs.operations.put_patch.Goals as goal

pub returns : goal.returns
returns c =
    let w0 = c.args.writer.now in
    let w1 = c.put.new.writer in
    let w2 = c.put_query_parameters.new.writer in
    let w3 = c.put_responses.new.writer in
    let w4 = c.put_group_version_kind.new.writer in
    let w5 = c.put-2.new.writer in
    on_ok_weaker c.put-2.result (λ ended. then_added _ _ w0 w1 w5 c.in_ok-put.ensures (then_added _ _ w1 w2 w5 c.in_ok-put_query_parameters.ensures (then_added _ _ w2 w3 w5 c.in_ok-put_responses.ensures (then_added _ _ w3 w4 w5 c.in_ok-put_group_version_kind.ensures ended)))) c.put-2.ensures
