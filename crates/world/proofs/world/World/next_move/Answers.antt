use Rattle.std.proofs.Common.{◌≡◌, ◌∙◌, Some, None, ℕ, Option, ap, sym}
use Rattle.world_laws.specs.Moves.{is_at}
use Rattle.world.specs.Views.{event_seen}
use Rattle.world.proofs.NextMoves.{no_move, one_move, some_current}
use Rattle.world.proofs.world.World.next_move.Goals as goal

pub returns-in_default : goal.returns-in_default
returns-in_default g c = λ task o w represents. absurd (no_number w.hub.machine.current (sym c.in_default.is ∙ c.current.ensures w.hub represents.hub))
  where
    no_number : (n : ℕ) → None ≡ Some n → ⊥
    no_number n is = cc

pub returns-then-is_at : goal.returns-then-is_at
returns-then-is_at g c = λ task o w represents.
    let k = represents.client in
    let current = some_current c.in-Some.current w.hub.machine.current (sym c.in-Some.is ∙ c.current.ensures w.hub represents.hub) in
    no_move w (sym (ap (λ n. is_at n w.client.cache) current) ∙ sym (c.is_at.ensures w.client.cache (c.revision.ensures w.client k.0 k.1 k.2)) ∙ c.if-is_at.true)

pub returns : goal.returns
returns g c = λ task o w represents.
    let k = represents.client in
    let current = some_current c.in-Some.current w.hub.machine.current (sym c.in-Some.is ∙ c.current.ensures w.hub represents.hub) in
    one_move w (event_seen c.move_by.result) (sym (ap (λ n. is_at n w.client.cache) current) ∙ sym (c.is_at.ensures w.client.cache (c.revision.ensures w.client k.0 k.1 k.2)) ∙ c.if-is_at.false) (c.move_by.ensures task o w represents current)
