use Rattle.std.proofs.Common.{◌≡◌, Err, ap, refl, subst, ℕ}
use Rattle.std.specs.Prelude.{◌↔◌, ◌<◌}
use Rattle.history.specs.View.{View}
use Rattle.revstore.specs.declared.fault.CompactFault.TheVariants.{Expired, TooLarge}
use Rattle.verbs.proofs.Planning.{compacts}
use Rattle.verbs.proofs.api.Api.compact.Goals as goal

pub returns-clause-ok : goal.returns-clause-ok
returns-clause-ok c = λ types m represents.
    compacts c.args.self.now _ types m c.args.revision c.compact.result Expired TooLarge represents refl c.compact.ensures.expired c.compact.ensures.too_large c.compact.ensures.ok

pub returns-clause-expired : goal.returns-clause-expired
returns-clause-expired c = λ types m represents.
    subst (λ (n : ℕ). (c.compact.result ≡ Err Expired) ↔ (c.args.revision < n)) (ap (λ (v : View). v.compacted) represents.store) c.compact.ensures.expired

pub returns-clause-too_large : goal.returns-clause-too_large
returns-clause-too_large c = λ types m represents.
    subst (λ (n : ℕ). (c.compact.result ≡ Err TooLarge) ↔ (n < c.args.revision)) (ap (λ (v : View). v.current) represents.store) c.compact.ensures.too_large
