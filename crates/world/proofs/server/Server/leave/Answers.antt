use Rattle.std.proofs.Common.{refl}
use Rattle.world.proofs.server.Server.leave.Goals as goal

pub returns-in_ok-on-in-Some : goal.returns-in_ok-on-in-Some
returns-in_ok-on-in-Some c = λ s serves. rw c.in-Some.is (c.in_ok-on-in-Some.ensures.steps s serves)

pub returns-in-None : goal.returns-in-None
returns-in-None c = λ s serves. rw c.in-None.is (s, refl, serves, λ begin since. since)
