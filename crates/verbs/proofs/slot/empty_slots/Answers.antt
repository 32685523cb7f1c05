use Rattle.std.proofs.Common.{subst, sym}
use Rattle.std.specs.List.{All}
use Rattle.std.proofs.lemmas.List.Elements.{All-push}
use Rattle.verbs.specs.CachedStateViews.{IsCoherentIn}
use Rattle.verbs.proofs.slot.empty_slots.Goals as goal

pub loop-preserved : goal.loop-preserved
loop-preserved c = λ types. subst (All (IsCoherentIn types)) (sym c.in_ok-push.ensures.items) (All-push (IsCoherentIn types) c.loop.slots.items _ (c.loop.invariant types) tt)
