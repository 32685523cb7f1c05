use Rattle.std.proofs.Common.{◌∙◌, cond, subst, sym}
use Rattle.reflector.specs.InformerViews.{InformerRepresents}
use Rattle.reflector.specs.Run.{closed}
use Rattle.world.proofs.world.close_if_over.Goals as goal

pub returns-then-is_over-clause-closes : goal.returns-then-is_over-clause-closes
returns-then-is_over-clause-closes g c = λ s x bytes emitted serves runs.
    subst (λ b. InformerRepresents (λ i o. g.I.IndexBy.keys i o) c.closed.new.self (cond b (closed x) x) bytes emitted) (sym c.if-is_over.true ∙ c.is_over.ensures s serves) (c.closed.ensures.closed x bytes emitted runs)

pub returns-else-is_over-clause-closes : goal.returns-else-is_over-clause-closes
returns-else-is_over-clause-closes g c = λ s x bytes emitted serves runs.
    subst (λ b. InformerRepresents (λ i o. g.I.IndexBy.keys i o) c.args.client.now (cond b (closed x) x) bytes emitted) (sym c.if-is_over.false ∙ c.is_over.ensures s serves) runs
