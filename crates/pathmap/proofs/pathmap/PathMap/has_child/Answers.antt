use Rattle.std.proofs.Common.{ap, ◌∙◌}
use Rattle.pathmap.specs.Levels.{has_path}
use Rattle.pathmap.proofs.Finding.{full_there}
use Rattle.pathmap.proofs.pathmap.PathMap.has_child.Goals as goal

pub returns : goal.returns
returns c = c.is_some.ensures ∙ full_there c.child.result c.child.ensures.full ∙ ap has_path c.child.ensures.inside
