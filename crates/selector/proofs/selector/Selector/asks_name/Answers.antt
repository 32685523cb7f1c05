use Rattle.std.proofs.Common.{rules, tests, ◌≡◌, ◌∙◌, ap, sym}
use Rattle.std.specs.Prelude.{string_bytes}
use Rattle.std.specs.Str.{bytes_eq}
use Rattle.std.proofs.lemmas.Iterator.{YieldsList-from_slice}
use Rattle.std.proofs.lemmas.Iterator.Search.{any_from_yields_List}
use Rattle.selector.specs.Fields.{asks_name, name_key}
use Rattle.selector.specs.Views.{requirement_of}
use Rattle.selector.proofs.Labels.{list_any-map}
use Rattle.selector.proofs.Named.{labels_decide}
use Rattle.selector.proofs.selector.Selector.asks_name.Goals as goal

asked : (c : goal.After-any) → c.any.result ≡ asks_name c.args.self.now
asked c =
    any_from_yields_List (λ r. bytes_eq (string_bytes r.key) name_key) _ _ c.any.result c.any.ensures.ran
    (YieldsList-from_slice c.self.inside.requirements.items (c.iter.ensures.rest ∙ c.deref.ensures.value)) (λ x b q k. search (rules, tests))
    ∙ list_any-map requirement_of (λ r. bytes_eq r.key name_key) c.self.inside.requirements.items
    ∙ ap asks_name c.self.view_is

pub returns-clause-value : goal.returns-clause-value
returns-clause-value c = asked c

pub returns-clause-labels_decide : goal.returns-clause-labels_decide
returns-clause-labels_decide c none = labels_decide c.args.self.now (sym (asked c) ∙ none)
