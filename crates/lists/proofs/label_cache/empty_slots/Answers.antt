use Rattle.std.proofs.Common.{subst, sym}
use Rattle.std.specs.Prelude.{IfSome}
use Rattle.std.specs.List.{All}
use Rattle.std.proofs.lemmas.List.Elements.{All-push}
use Rattle.lists.specs.LabelCache.{IsRight}
use Rattle.lists.proofs.label_cache.empty_slots.Goals as goal

pub loop-preserved : goal.loop-preserved
loop-preserved c =
    subst (All (λ slot. IfSome slot IsRight)) (sym c.in_ok-push.ensures.items) (All-push (λ slot. IfSome slot IsRight) c.loop.slots.items _ c.loop.invariant tt)
