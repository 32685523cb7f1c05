use Rattle.std.proofs.Common.{refl}
use Rattle.api_types.specs.Subresources.{is_apart}
use Rattle.api_types.proofs.served.Served.is_apart.Goals as goal

pub returns : goal.returns
unfolding is_apart
returns c = refl
