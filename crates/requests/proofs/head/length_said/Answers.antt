use Rattle.std.proofs.Common.{List, ℕ, ◌∙◌, sym, ap}
use Rattle.wire.specs.Lengths.{decimal_value}
use Rattle.requests.specs.Heads.{number}
use Rattle.requests.specs.Views.{is_plain}
use Rattle.requests.proofs.Digits.{plain, said, unsaid}
use Rattle.requests.proofs.head.length_said.Goals as goal

pub returns-then-not-is_length-clause-value : goal.returns-then-not-is_length-clause-value
returns-then-not-is_length-clause-value c = unsaid c.args.value.now (sym c.is_length.ensures ∙ c.if-not-is_length.true)

pub returns-clause-value : goal.returns-clause-value
returns-clause-value c = ap (λ (ds : List ℕ). number (decimal_value ds)) c.without_zeros.ensures ∙ said c.args.value.now (sym c.is_length.ensures ∙ c.if-not-is_length.false)

pub returns-clause-plain : goal.returns-clause-plain
returns-clause-plain c = ap is_plain c.without_zeros.ensures ∙ plain c.args.value.now (sym c.is_length.ensures ∙ c.if-not-is_length.false)
