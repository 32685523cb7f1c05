use Rattle.server_program.specs.Creations.{IsRefused}
use Rattle.server_program.proofs.Creating.{error_is}
use Rattle.server_program.proofs.creations.creation.Goals as goal

pub returns-in_err-path-clause-err : goal.returns-in_err-path-clause-err
returns-in_err-path-clause-err c = λ types m.
    error_is c.from_residual-in_err-path.result _ (IsRefused types m c.args.line.now) c.from_residual-in_err-path.ensures.1 (c.in_err-path.ensures.err types m c.args.line.now)
