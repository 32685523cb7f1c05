use Rattle.std.proofs.Common.{rules, tests, ◌∙◌}
use Rattle.std.proofs.lemmas.Iterator.{YieldsList-from_slice}
use Rattle.std.proofs.lemmas.Iterator.Search.{any_from_yields_List}
use Rattle.selector.specs.Fields.{refuses}
use Rattle.selector.specs.Views.{requirement_of}
use Rattle.selector.proofs.Labels.{list_any-map}
use Rattle.selector.proofs.requirement.refuse.Goals as goal

pub returns : goal.returns
returns c =
    any_from_yields_List (λ r. refuses c.args.name.now (requirement_of r)) _ _ c.any.result c.any.ensures.ran (YieldsList-from_slice c.args.requirements.now c.iter.ensures.rest) (λ x b q k. search (rules, tests))
    ∙ list_any-map requirement_of (refuses c.args.name.now) c.args.requirements.now
