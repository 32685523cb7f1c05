use Rattle.std.proofs.Common.{sym, ap₂, ◌∙◌}
use Rattle.api_types.specs.Retyping.{is_lawful_change, types_may_become}
use Rattle.api_types.proofs.types.Types.change_to.Goals as goal

pub invariant_of-result : goal.invariant_of-result
unfolding is_lawful_change
invariant_of-result c = record { lawful = ap₂ types_may_become (sym c.all.ensures) (sym c.all-2.ensures) ∙ sym c.all_may_become.ensures ∙ c.if-not-all_may_become.false }
