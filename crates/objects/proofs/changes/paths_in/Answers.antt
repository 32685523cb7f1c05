use Rattle.std.proofs.Common.{◌∙◌, ap}
use Rattle.pathmap.specs.Contents.{dom}
use Rattle.pathmap.proofs.Order.{dom-marked}
use Rattle.objects.proofs.changes.paths_in.Goals as goal

pub returns : goal.returns
returns c = c.of.ensures ∙ ap dom c.in_ok-marks.ensures ∙ dom-marked (dom c.map.result.now) ∙ ap dom c.map.ensures
