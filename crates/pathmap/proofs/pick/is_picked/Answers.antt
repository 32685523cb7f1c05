use Rattle.std.proofs.Common.{ap, sym, ◌∙◌}
use Rattle.std.specs.Option.{option_map}
use Rattle.pathmap.specs.Maps.{content_or_nothing, leaf_value}
use Rattle.pathmap.specs.Picks.{picks}
use Rattle.pathmap.proofs.Picking.{picks-nothing}
use Rattle.pathmap.proofs.pick.is_picked.Goals as goal

pub returns-in-None : goal.returns-in-None
returns-in-None c =
    let v = leaf_value c.args.mine.now in
    c.picks_alone.ensures ∙ sym (picks-nothing c.args.rule v) ∙ sym (ap (λ o. picks c.args.rule v (content_or_nothing (option_map (λ m. m.now) o))) c.in-None.is)
