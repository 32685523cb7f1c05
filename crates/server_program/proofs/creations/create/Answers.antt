use Rattle.std.proofs.Common.{subst}
use Rattle.api_request.specs.Views.{call_of}
use Rattle.server_program.specs.Creations.{IsCreation, IsRefused}
use Rattle.server_program.proofs.Creating.{error_is}
use Rattle.server_program.proofs.creations.create.Goals as goal

pub returns-clause-ok : goal.returns-clause-ok
returns-clause-ok c = λ types m stands.
    c.make.ensures.ok types m c.args.line.now stands (subst (λ ts. IsCreation ts c.args.line.now (call_of c.in_ok-call.call)) stands.serves c.in_ok-call.ensures.ok)

pub returns-clause-err : goal.returns-clause-err
returns-clause-err c = λ types m stands.
    c.make.ensures.err types m c.args.line.now stands (subst (λ ts. IsCreation ts c.args.line.now (call_of c.in_ok-call.call)) stands.serves c.in_ok-call.ensures.ok)

pub returns-in_err-call-clause-err : goal.returns-in_err-call-clause-err
returns-in_err-call-clause-err c = λ types m stands. error_is c.from_residual.result _ (IsRefused types m c.args.line.now) c.from_residual.ensures.1 (c.in_err-call.ensures.err types m)
