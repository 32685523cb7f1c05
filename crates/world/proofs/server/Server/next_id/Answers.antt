use Rattle.world.proofs.server.Server.next_id.Goals as goal

pub returns : goal.returns
returns c = λ s serves. c.next_id.ensures s serves.0.0
