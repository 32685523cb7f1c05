use Rattle.std.proofs.Common.{false, refl}
use Rattle.std.specs.Prelude.{⊤}
use Rattle.httpedge.specs.declared.effect.Effect.{Effect}
use Rattle.httpedge.specs.Steps.{compacts}
use Rattle.httpedge.proofs.Representing.{Answers, compacts_well, done_fits, early_refused, failed_fits, failed_handled, fails_out_of_memory, late_refused, same_shared, same_held}
use Rattle.httpedge.proofs.hub.Hub.compact.Goals as goal

pub returns-in-Ok : goal.returns-in-Ok
returns-in-Ok c = λ s is.
    let self = c.args.self.now in
    let represents = is.0.machine in
    let answers : Answers s c.args.revision c.compact.result = (c.compact.ensures.expired s.types s.machine represents, c.compact.ensures.too_large s.types s.machine represents) in
    compacts_well s c.args.revision self c.compact.new.self is
    (done_fits ⊤ s c.args.revision c.compact.result c.in-Ok.field-0 answers c.in-Ok.is)
    (c.in-Ok.ensures.ok s.types s.machine represents)

pub returns-in-Err-Expired : goal.returns-in-Err-Expired
returns-in-Err-Expired c = (
  same_shared c.args.self.now c.compact.new.self c.in-Err-Expired.ensures.unchanged,
  λ s is.
      let represents = is.0.machine in
      let answers : Answers s c.args.revision c.compact.result = (c.compact.ensures.expired s.types s.machine represents, c.compact.ensures.too_large s.types s.machine represents) in
      early_refused ⊤ s c.args.revision c.compact.result c.in-Err-Expired.field-0 answers c.in-Err-Expired.is c.in-Err-Expired.field-0-is,
)

pub returns-in-Err-TooLarge : goal.returns-in-Err-TooLarge
returns-in-Err-TooLarge c = (
  same_shared c.args.self.now c.compact.new.self c.in-Err-TooLarge.ensures.unchanged,
  λ s is.
      let represents = is.0.machine in
      let answers : Answers s c.args.revision c.compact.result = (c.compact.ensures.expired s.types s.machine represents, c.compact.ensures.too_large s.types s.machine represents) in
      late_refused ⊤ s c.args.revision c.compact.result c.in-Err-TooLarge.field-0 answers c.in-Err-TooLarge.is c.in-Err-TooLarge.field-0-is,
)

pub returns-in-Err-Failed : goal.returns-in-Err-Failed
returns-in-Err-Failed c =
    failed_handled c.args.self.now _ (compacts c.args.revision) _ (fails_out_of_memory Effect _ _ c.from-in-Err-Failed.ensures)
    (λ s is.
    let self = c.args.self.now in
    let represents = is.0.machine in
    let answers : Answers s c.args.revision c.compact.result = (c.compact.ensures.expired s.types s.machine represents, c.compact.ensures.too_large s.types s.machine represents) in
    let fits = failed_fits ⊤ s c.args.revision c.compact.result c.in-Err-Failed.field-0 c.in-Err-Failed.fault answers c.in-Err-Failed.is c.in-Err-Failed.field-0-is in
    ((λ q. false), s, (fits, refl, refl), same_held s self c.compact.new.self is (c.in-Err-Failed.ensures.err s.types s.machine represents)))
