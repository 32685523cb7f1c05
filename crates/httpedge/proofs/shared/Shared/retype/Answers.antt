use Rattle.httpedge.proofs.shared.Shared.retype.Goals as goal

pub returns-in-Ok-clause-ok : goal.returns-in-Ok-clause-ok
returns-in-Ok-clause-ok c = λ types m serves.
    let done = c.in-Ok.ensures.ok types m serves.0 in
    (done.0, done.1, (done.2, tt))

pub returns-in-Err-clause-refused : goal.returns-in-Err-clause-refused
returns-in-Err-clause-refused c = λ types m serves. c.in-Err.ensures.refused types m serves.0
