use Rattle.std.proofs.Common.{◌≡◌, arith}
use Rattle.std.proofs.lemmas.Bool.Decides.{nat_tests}
use Rattle.fast_float.specs.Text.{scan}
use Rattle.serde_json.specs.Find.{index_of}
use Rattle.json_patch.proofs.places.index.Goals as goal

pub returns-in_err-index : goal.returns-in_err-index
unfolding index_of
returns-in_err-index c =
    let parts : scan c.args.token.now ≡ c.scan-numeral.result = rw (← c.as_bytes-digits.ensures.value, c.scan-numeral.ensures.parts) in
    rw parts (grind (arith, nat_tests))

pub returns-then-len-digits : goal.returns-then-len-digits
unfolding index_of
returns-then-len-digits c =
    let parts : scan c.args.token.now ≡ c.scan-numeral.result = rw (← c.as_bytes-digits.ensures.value, c.scan-numeral.ensures.parts) in
    rw parts (grind (arith, nat_tests))

pub returns-else-len-digits : goal.returns-else-len-digits
unfolding index_of
returns-else-len-digits c =
    let parts : scan c.args.token.now ≡ c.scan-numeral.result = rw (← c.as_bytes-digits.ensures.value, c.scan-numeral.ensures.parts) in
    rw parts (grind (arith, nat_tests))
