use Rattle.httpedge.proofs.shared.Shared.marks.Goals as goal

pub returns : goal.returns
returns c = λ types m serves. c.marks.ensures types m serves.0
