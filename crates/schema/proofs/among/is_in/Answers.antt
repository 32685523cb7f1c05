use Rattle.std.proofs.Common.{rules, tests, sym, ◌∙◌}
use Rattle.std.proofs.lemmas.Iterator.{YieldsList-from_slice}
use Rattle.std.proofs.lemmas.Iterator.Search.{any_from_yields_List}
use Rattle.std.specs.Str.{bytes_eq}
use Rattle.schema.proofs.Lists.{list_any-map}
use Rattle.schema.proofs.among.is_in.Goals as goal

pub returns : goal.returns
returns c =
    any_from_yields_List (λ n. bytes_eq n.now c.args.name.now) _ _ c.any.result c.any.ensures.ran (YieldsList-from_slice c.args.names.now cc) (λ x b q k. search (rules, tests))
    ∙ sym (list_any-map (λ n. bytes_eq n c.args.name.now) (λ n. n.now) c.args.names.now)
