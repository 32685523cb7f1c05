use Rattle.std.proofs.Common.{◌≡◌, ℕ, List, Option, Some, subst}
use Rattle.std.specs.Fmt.{◌++?◌}
use Rattle.std.specs.Prelude.{IfOk, IfSome, string_bytes}
use Rattle.wire.specs.Heads.{crlf}
use Rattle.requests.proofs.watch_chunks.chunk_head.Goals as goal

pub returns : goal.returns
returns c = subst (λ (o : Option (List ℕ)). IfOk c.format.result (λ s. IfSome (o ++? Some crlf) (λ bs. string_bytes s ≡ bs))) c.in_radix.ensures c.format.ensures.ok
