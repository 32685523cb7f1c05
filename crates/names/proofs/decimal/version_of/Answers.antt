use Rattle.std.proofs.Common.{◌≡◌, ◌↔◌, sym, subst, lit<, Option, ℕ, Some}
use Rattle.names.specs.Decimals.{IsDecimalOf}
use Rattle.names.proofs.Decimals.{exact}
use Rattle.names.proofs.decimal.version_of.Goals as goal

pub returns-clause-exact : goal.returns-clause-exact
returns-clause-exact c = λ n.
    subst (λ (r : Option ℕ). (r ≡ Some n) ↔ IsDecimalOf 9223372036854775807 c.args.text.now n) (sym c.decimal_up_to.ensures) (exact 9223372036854775807 c.args.text.now n (lit< tt))
