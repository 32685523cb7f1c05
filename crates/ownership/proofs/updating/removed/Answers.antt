use Rattle.std.proofs.Common.{◌≡◌, IfOk, ap, subst}
use Rattle.std.specs.FinSet as set
use Rattle.pathmap.specs.Contents.{dom}
use Rattle.ownership.specs.Update.{removed}
use Rattle.ownership.proofs.updating.removed.Goals as goal

pub returns : goal.returns
unfolding removed
returns c = subst (λ t. IfOk c.lacking-2.result (λ s. s ≡ t)) (ap (λ s. set.difference s (dom c.args.new.now)) c.in_ok-paths_in.ensures) c.lacking-2.ensures
