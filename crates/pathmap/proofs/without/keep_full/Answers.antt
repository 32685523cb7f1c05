use Rattle.std.proofs.Common.{ap, ◌∙◌, rules}
use Rattle.std.proofs.lemmas.Fn.{filter_same}
use Rattle.pathmap.specs.Levels.{has_path}
use Rattle.pathmap.specs.Maps.{contents_in}
use Rattle.pathmap.proofs.Cutting.{filter-full}
use Rattle.pathmap.proofs.without.keep_full.Goals as goal

pub returns : goal.returns
returns c = ap contents_in (filter_same _ (λ x. has_path x.1) _ (λ x b f' k. search rules) _ _ c.retain.ensures.filtered) ∙ filter-full c.args.below.now.items
