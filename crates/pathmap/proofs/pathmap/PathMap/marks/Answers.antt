use Rattle.std.proofs.Common.{◌≡◌, IfOk, subst}
use Rattle.pathmap.specs.Contents.{marked}
use Rattle.pathmap.specs.Maps.{content}
use Rattle.pathmap.proofs.Picking.{minus_nothing}
use Rattle.pathmap.proofs.pathmap.PathMap.marks.Goals as goal

pub returns : goal.returns
returns c = subst (λ s. IfOk c.pick.result (λ m. content m ≡ marked s)) (minus_nothing (content c.args.self.now)) c.pick.ensures
