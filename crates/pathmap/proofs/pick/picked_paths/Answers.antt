use Rattle.std.proofs.Common.{ap, ◌∙◌}
use Rattle.std.specs.Option.{option_map}
use Rattle.pathmap.specs.Contents.{dom}
use Rattle.pathmap.specs.Maps.{content, content_or_nothing}
use Rattle.pathmap.specs.Picks.{picked}
use Rattle.pathmap.proofs.Order.{dom-marked}
use Rattle.pathmap.proofs.pick.picked_paths.Goals as goal

pub returns : goal.returns
returns c = ap dom c.in_ok-made.ensures ∙ dom-marked (picked c.args.rule (content c.args.mine.now) (content_or_nothing (option_map (λ m. m.now) c.args.theirs)))
