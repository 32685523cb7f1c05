use Rattle.std.proofs.Common.{ap, ◌∙◌}
use Rattle.pathmap.specs.Contents.{here, mark, over}
use Rattle.pathmap.specs.Maps.{contents_in}
use Rattle.pathmap.proofs.Adding.{mark_put}
use Rattle.pathmap.proofs.pathmap.PathMap.mark.Goals as goal

pub returns : goal.returns
returns c = mark_put c.self.inside.held (contents_in c.self.inside.below.items) ∙ ap (over (here mark)) c.self.view_is
