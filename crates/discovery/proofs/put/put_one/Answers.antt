use Rattle.std.proofs.lemmas.Result.{on_ok_weaker}
use Rattle.discovery.proofs.put.put_one.Goals as goal

pub returns : goal.returns
returns c = on_ok_weaker c.token.result (λ pushed. (c.token.ensures.room.0, pushed)) c.token.ensures.ok
