use Rattle.std.proofs.Common.{◌≡◌, true, Some, None, SFits, w64, to_z-of_z, ap, ◌∙◌, rules}
use Rattle.serde_json.specs.View.{number_view}
use Rattle.json_patch.proofs.Exactly.{as_negative, as_unsigned, no_integer}
use Rattle.json_patch.proofs.numbers.integer.Goals as goal

pub returns-in-Some : goal.returns-in-Some
returns-in-Some c = as_unsigned (number_view c.args.number.now) c.in-Some.size c.in-Some.ensures

pub returns-in_err-below_zero : goal.returns-in_err-below_zero
returns-in_err-below_zero c =
    let none : c.from_residual.result ≡ None = search rules in
    none ∙ no_integer (number_view c.args.number.now) c.in_default.ensures c.in_err-below_zero.ensures

pub returns : goal.returns
returns c =
    let fits : SFits w64 c.in_ok-below_zero.below_zero = search rules in
    ap (λ k. Some (true, k)) (simp to_z-of_z at c.unsigned_abs.ensures.value)
    ∙ as_negative (number_view c.args.number.now) c.in_ok-below_zero.below_zero c.in_default.ensures c.in_ok-below_zero.ensures
