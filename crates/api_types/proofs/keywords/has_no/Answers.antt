use Rattle.std.proofs.Common.{rules, tests, not, sym, ◌∙◌}
use Rattle.std.proofs.lemmas.Iterator.{YieldsList-from_slice}
use Rattle.std.proofs.lemmas.Iterator.Search.{all_from_yields_List}
use Rattle.std.proofs.lemmas.List.Folds.{list_all-map}
use Rattle.serde_json.specs.View.{members_view}
use Rattle.json_values.specs.Members.{has}
use Rattle.api_types.proofs.keywords.has_no.Goals as goal

pub returns : goal.returns
returns c =
    let ms = members_view c.args.members.now.entries in
    all_from_yields_List (λ k. not (has k.now ms)) _ _ c.all.result c.all.ensures.ran (YieldsList-from_slice c.args.names.now cc) (λ x b q k. search (rules, tests))
    ∙ sym (list_all-map (λ k. not (has k ms)) (λ n. n.now) c.args.names.now)
