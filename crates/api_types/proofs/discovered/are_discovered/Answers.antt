use Rattle.std.proofs.Common.{rules, tests, sym, ◌∙◌}
use Rattle.std.proofs.lemmas.Iterator.{YieldsList-from_slice}
use Rattle.std.proofs.lemmas.Iterator.Search.{any_from_yields_List}
use Rattle.schema.proofs.Lists.{list_any-map}
use Rattle.api_types.specs.Profiles.{is_discovered}
use Rattle.api_types.specs.Served.{served}
use Rattle.api_types.specs.TypesFile.{ServedShape}
use Rattle.api_types.specs.declared.served.Served.{Served}
use Rattle.api_types.proofs.discovered.are_discovered.Goals as goal

pub returns : goal.returns
returns c =
    any_from_yields_List (λ (s : Served). is_discovered s.profile) _ _ c.any.result c.any.ensures.ran (YieldsList-from_slice c.args.types.now cc) (λ x b q k. search (rules, tests))
    ∙ sym (list_any-map (λ (t : ServedShape). is_discovered t.profile) served c.args.types.now)
