use Rattle.std.proofs.Common.{map, sym, ap, ◌∙◌}
use Rattle.std.proofs.lemmas.List.{drop_all}
use Rattle.api_types.specs.Retyping.{types_may_become}
use Rattle.api_types.specs.Served.{served}
use Rattle.api_types.proofs.Pairs.{no_type_left}
use Rattle.api_types.proofs.retyping.all_may_become.Goals as goal

pub returns : goal.returns
returns c =
    no_type_left c.loop-served.left.now c.is_empty.result c.is_empty.ensures
    ∙ ap (λ ts. types_may_become (map served ts) (map served c.loop-served.left.now)) (sym (drop_all c.loop-served.served-index c.args.types.now c.loop-served-test.false)) ∙ c.loop-served.invariant
