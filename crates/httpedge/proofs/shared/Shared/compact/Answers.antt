use Rattle.std.proofs.Common.{◌≡◌, ◌<◌, Err, subst}
use Rattle.std.specs.Prelude.{◌↔◌}
use Rattle.revstore.specs.declared.fault.CompactFault.TheVariants as fault
use Rattle.httpedge.proofs.shared.Shared.compact.Goals as goal

pub returns-in-Ok-clause-ok : goal.returns-in-Ok-clause-ok
returns-in-Ok-clause-ok c = λ types m serves. (c.in-Ok.ensures.ok types m serves.0, tt)

pub returns-in-Ok-clause-expired : goal.returns-in-Ok-clause-expired
returns-in-Ok-clause-expired c = λ types m serves. subst (λ r. (r ≡ Err fault.Expired) ↔ (c.args.revision < m.compacted)) c.in-Ok.is (c.compact.ensures.expired types m serves.0)

pub returns-in-Ok-clause-too_large : goal.returns-in-Ok-clause-too_large
returns-in-Ok-clause-too_large c = λ types m serves. subst (λ r. (r ≡ Err fault.TooLarge) ↔ (m.current < c.args.revision)) c.in-Ok.is (c.compact.ensures.too_large types m serves.0)

pub returns-in-Err-clause-expired : goal.returns-in-Err-clause-expired
returns-in-Err-clause-expired c = λ types m serves. subst (λ r. (r ≡ Err fault.Expired) ↔ (c.args.revision < m.compacted)) c.in-Err.is (c.compact.ensures.expired types m serves.0)

pub returns-in-Err-clause-too_large : goal.returns-in-Err-clause-too_large
returns-in-Err-clause-too_large c = λ types m serves. subst (λ r. (r ≡ Err fault.TooLarge) ↔ (m.current < c.args.revision)) c.in-Err.is (c.compact.ensures.too_large types m serves.0)

pub returns-in-Err-clause-err : goal.returns-in-Err-clause-err
returns-in-Err-clause-err c = λ types m serves. (c.in-Err.ensures.err types m serves.0, serves.1)
