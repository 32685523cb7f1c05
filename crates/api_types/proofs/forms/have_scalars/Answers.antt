use Rattle.std.proofs.Common.{rules, tests, string_bytes, sym, ◌∙◌}
use Rattle.std.proofs.lemmas.Iterator.{YieldsList-from_slice}
use Rattle.std.proofs.lemmas.Iterator.Search.{all_from_yields_List}
use Rattle.std.proofs.lemmas.List.Folds.{list_all-map}
use Rattle.serde_json.specs.View.{members_view}
use Rattle.json_values.specs.Members.{members_at}
use Rattle.api_types.specs.Keywords.{is_scalar_schema}
use Rattle.api_types.proofs.forms.have_scalars.Goals as goal

pub returns : goal.returns
returns c =
    let ps = members_view c.args.properties.now.entries in
    all_from_yields_List (λ k. is_scalar_schema (members_at (string_bytes k) ps)) _ _ c.all.result c.all.ensures.ran (YieldsList-from_slice c.args.names.now cc) (λ x b q k. search (rules, tests))
    ∙ sym (list_all-map (λ k. is_scalar_schema (members_at k ps)) string_bytes c.args.names.now)
