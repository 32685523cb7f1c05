use Rattle.std.proofs.Common.{rules, tests, ◌∙◌}
use Rattle.std.specs.Prelude.{string_bytes}
use Rattle.std.specs.Str.{bytes_eq}
use Rattle.std.proofs.lemmas.Iterator.{YieldsList-from_slice}
use Rattle.std.proofs.lemmas.Iterator.Search.{all_from_yields_List}
use Rattle.selector.specs.Fields.{name_key}
use Rattle.selector.specs.Views.{requirement_of}
use Rattle.selector.proofs.Labels.{list_all-map}
use Rattle.selector.proofs.requirement.all_ask_name.Goals as goal

pub returns : goal.returns
returns c =
    all_from_yields_List (λ r. bytes_eq (string_bytes r.key) name_key) _ _ c.all.result c.all.ensures.ran (YieldsList-from_slice c.args.requirements.now c.iter.ensures.rest) (λ x b q k. search (rules, tests))
    ∙ list_all-map requirement_of (λ r. bytes_eq r.key name_key) c.args.requirements.now
