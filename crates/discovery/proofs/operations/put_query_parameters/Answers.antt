use Rattle.std.proofs.lemmas.Result.{on_ok_weaker}
use Rattle.discovery.proofs.Appended.{then_added}
use Rattle.discovery.proofs.operations.put_query_parameters.Goals as goal

pub returns : goal.returns
returns c =
    let w0 = c.args.writer.now in
    let w1 = c.put_query_parameter.new.writer in
    let w2 = c.put_query_parameter-2.new.writer in
    let w3 = c.put_query_parameter-3.new.writer in
    let w4 = c.put_query_parameter-4.new.writer in
    let w5 = c.put.new.writer in
    on_ok_weaker c.put.result (λ ended. then_added _ _ w0 w1 w5 c.in_ok-put_query_parameter.ensures (then_added _ _ w1 w2 w5 c.in_ok-put_query_parameter-2.ensures (then_added _ _ w2 w3 w5 c.in_ok-put_query_parameter-3.ensures (then_added _ _ w3 w4 w5 c.in_ok-put_query_parameter-4.ensures ended)))) c.put.ensures
