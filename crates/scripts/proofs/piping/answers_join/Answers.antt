use Rattle.std.proofs.Common.{ap, option_map}
use Rattle.std.specs.Prelude.{[], unwrap_or}
use Rattle.std.specs.FinMap as fin
use Rattle.std.specs.Ordering.{nat_cmp}
use Rattle.httpedge.specs.Connections.{Connection}
use Rattle.scripts.proofs.Joining.{all_joined}
use Rattle.scripts.proofs.piping.answers_join.Goals as goal

pub returns-clause-joined : goal.returns-clause-joined
returns-clause-joined c = λ task n w lines parts m v converses. all_joined c.steps_join.ensures task n w lines parts m v converses

pub returns-clause-start : goal.returns-clause-start
returns-clause-start c = λ types revision id. ap (λ o. unwrap_or (option_map (λ (x : Connection). x.written) o) []) (fin.get-empty nat_cmp id)
