use Rattle.httpedge.proofs.hub.Hub.marks.Goals as goal

pub returns : goal.returns
returns c = λ s is. c.marks.ensures s.types s.machine is.0.machine
