use Rattle.std.proofs.Common.{rules, tests, ◌∙◌}
use Rattle.std.specs.Prelude.{string_bytes}
use Rattle.std.specs.Str.{bytes_eq}
use Rattle.std.proofs.lemmas.Iterator.{YieldsList-from_slice}
use Rattle.std.proofs.lemmas.Iterator.Search.{any_from_yields_List}
use Rattle.selector.proofs.Labels.{list_any-map}
use Rattle.selector.proofs.requirement.has_text.Goals as goal

pub returns : goal.returns
returns c =
    any_from_yields_List (λ t. bytes_eq (string_bytes t) c.args.wanted.now) _ _ c.any.result c.any.ensures.ran (YieldsList-from_slice c.args.texts.now c.iter.ensures.rest) (λ x b q k. search (rules, tests))
    ∙ list_any-map string_bytes (λ t. bytes_eq t c.args.wanted.now) c.args.texts.now
