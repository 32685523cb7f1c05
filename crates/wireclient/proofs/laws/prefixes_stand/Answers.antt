use Rattle.wireclient.proofs.Prefixes.{closed_holds, prefix_holds, same_prefix}
use Rattle.wireclient.proofs.laws.prefixes_stand.Goals as goal

pub returns : goal.returns
returns c = record { prefix = prefix_holds; same = same_prefix; closed = closed_holds }
