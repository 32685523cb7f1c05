use Rattle.wireclient.proofs.request.request_bytes.Goals as goal

pub returns-in-Some : goal.returns-in-Some
returns-in-Some c = rw c.in-Some.is c.with_body.ensures
