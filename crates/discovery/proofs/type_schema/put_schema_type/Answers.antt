use Rattle.std.proofs.lemmas.Result.{on_ok_weaker}
use Rattle.discovery.proofs.Appended.{then_added}
use Rattle.discovery.proofs.type_schema.put_schema_type.Goals as goal

pub returns : goal.returns
returns c =
    let w0 = c.args.writer.now in
    let w1 = c.put.new.writer in
    let w2 = c.put_group_version_kind.new.writer in
    let w3 = c.put-2.new.writer in
    on_ok_weaker c.put-2.result (λ ended. then_added _ _ w0 w1 w3 c.in_ok-put.ensures (then_added _ _ w1 w2 w3 c.in_ok-put_group_version_kind.ensures ended)) c.put-2.ensures
