use Rattle.std.proofs.Common.{refl, sym, subst, ◌∙◌}
use Rattle.verbs.specs.declared.api.Api.{Api}
use Rattle.verbs.specs.Views.{ApiRepresents}
use Rattle.httpedge.specs.IdViews.{is_in}
use Rattle.httpedge.proofs.Ticked.{ticks_in}
use Rattle.httpedge.proofs.connections.Connections.tick.Goals as goal

pub returns : goal.returns
returns c = λ shared s same held.
    let self = c.args.self.now in
    let ticked = c.tick_all-changes.ensures.ticks s.types s.machine s.connections (is_in self.ended.ranges) (is_in self.cut.ranges) (subst (λ (a : Api). ApiRepresents a s.types s.machine) same held.machine.0) held.connections (λ q now. held.open_is q ∙ now) in
    ticks_in s c.args.ms shared self _ c.tick_all-changes.result held ticked c.drop_ended.ensures refl (λ q has. held.apart q (sym (c.tick_all-changes.ensures.keys q) ∙ has))
