use Rattle.std.proofs.Common.{rules, tests, ◌∙◌, ap}
use Rattle.std.specs.Prelude.{option_map, string_bytes}
use Rattle.std.proofs.lemmas.Iterator.{YieldsList-from_slice}
use Rattle.std.proofs.lemmas.Iterator.Search.{all_from_yields_List}
use Rattle.selector.specs.Fields.{attributes}
use Rattle.selector.specs.Labels.{value_at}
use Rattle.selector.specs.Requirement.{meets, selects}
use Rattle.selector.specs.Views.{condition_of, requirement_of, labels_of}
use Rattle.selector.proofs.Labels.{list_all-map}
use Rattle.selector.proofs.selector.Selector.matches_named.Goals as goal

pub returns : goal.returns
returns c =
    let seen = attributes (option_map (λ n. n.now) c.args.name) (labels_of c.args.labels.now) in
    all_from_yields_List (λ r. meets (condition_of r.condition) (value_at (string_bytes r.key) seen)) _ _ c.all.result c.all.ensures.ran
    (YieldsList-from_slice c.self.inside.requirements.items (c.iter.ensures.rest ∙ c.deref.ensures.value)) (λ x b q k. search (rules, tests))
    ∙ list_all-map requirement_of (λ r. meets r.condition (value_at r.key seen)) c.self.inside.requirements.items
    ∙ ap (λ rs. selects rs seen) c.self.view_is
