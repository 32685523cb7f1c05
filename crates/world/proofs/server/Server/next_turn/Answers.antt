use Rattle.world.proofs.server.Server.next_turn.Goals as goal

pub returns : goal.returns
returns c = λ s serves. c.next_turn.ensures s serves.0.0
