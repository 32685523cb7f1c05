use Rattle.std.proofs.Common.{◌≡◌, ◌∙◌, sym, subst}
use Rattle.requests.specs.declared.head.Length as lengths
use Rattle.wire.specs.Lengths.{decimal_value}
use Rattle.requests.specs.Heads.{agreed, malformed, number}
use Rattle.requests.specs.Views.{IsPlain, length_of}
use Rattle.requests.proofs.Digits.{agreed_not}
use Rattle.requests.proofs.head.agreed_with.Goals as goal

pub returns-else-eq-clause-value : goal.returns-else-eq-clause-value
returns-else-eq-clause-value c =
    let said = c.args.said.now in
    let others = c.in-Digits.others.now in
    let plain = subst IsPlain c.in-Digits.is c.requires.other in
    subst (λ (l : lengths.Length). malformed ≡ agreed (number (decimal_value said)) (length_of l)) (sym c.in-Digits.is)
    (agreed_not said others c.requires.said plain (sym c.eq.ensures ∙ c.if-eq.false))
