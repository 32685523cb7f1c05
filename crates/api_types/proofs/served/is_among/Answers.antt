use Rattle.std.proofs.Common.{rules, tests, sym, ◌∙◌}
use Rattle.std.proofs.lemmas.Iterator.{YieldsList-from_slice}
use Rattle.std.proofs.lemmas.Iterator.Search.{any_from_yields_List}
use Rattle.api_types.specs.Served.{served}
use Rattle.api_types.specs.TypesFile.{is_named}
use Rattle.schema.proofs.Lists.{list_any-map}
use Rattle.api_types.proofs.served.is_among.Goals as goal

pub returns : goal.returns
returns c =
    let t = served c.args.other.now in
    any_from_yields_List (λ s. is_named t.group t.version t.plural (served s)) _ _ c.any.result c.any.ensures.ran (YieldsList-from_slice c.args.types.now cc) (λ x b q k. search (rules, tests))
    ∙ sym (list_any-map (is_named t.group t.version t.plural) served c.args.types.now)
