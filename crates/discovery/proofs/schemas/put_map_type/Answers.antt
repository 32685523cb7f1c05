use Rattle.std.proofs.Common.{OnOk, subst, sym}
use Rattle.json.specs.Tree.{members_tokens}
use Rattle.discovery.specs.OpenApi.{map_type}
use Rattle.discovery.specs.Writing.{Adds}
use Rattle.discovery.proofs.schemas.put_map_type.Goals as goal

pub returns-then-is_atomic : goal.returns-then-is_atomic
returns-then-is_atomic c = subst (λ b. OnOk c.put.result (Adds (members_tokens (map_type b)) c.args.writer.now c.put.new.writer)) (sym c.if-is_atomic.true) c.put.ensures
