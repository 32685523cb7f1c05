use Rattle.std.proofs.lemmas.Result.{on_ok_weaker}
use Rattle.discovery.proofs.Appended.{then_added}
use Rattle.discovery.proofs.groups.put_group.Goals as goal

pub returns : goal.returns
returns c = on_ok_weaker c.put_members.result (λ told. then_added _ _ c.args.writer.now c.put.new.writer c.put_members.new.writer c.in_ok-put.ensures told) c.put_members.ensures
