use Rattle.std.proofs.Common.{◌∙◌}
use Rattle.httpedge.specs.ConnectionViews.{found}
use Rattle.httpedge.proofs.NextTurns.{told_current, told_none, turn_is}
use Rattle.httpedge.proofs.hub.Hub.next_turn.Goals as goal

pub returns-in_default : goal.returns-in_default
returns-in_default c = λ s is. absurd (told_none c.in_default.field-0 (s.machine.current, s.machine.compacted) c.marks.result c.in_default.is (c.marks.ensures s is))

pub returns : goal.returns
returns c = λ s is.
    let known = c.args.self.now.connections in
    c.next_turn.ensures
    ∙ turn_is s c.args.id c.in-Ok.current c.args.self.now.last_tick (found known c.args.id) (told_current c.in-Ok.current _ (s.machine.current, s.machine.compacted) c.marks.result c.in-Ok.is (c.marks.ensures s is)) is.1 (is.0.connections c.args.id)
