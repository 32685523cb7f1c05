use Rattle.std.proofs.Common.{◌≡◌, ◌==◌, false, get_or, is_some, sym, ap, ◌∙◌}
use Rattle.fast_float.specs.Text.{scan}
use Rattle.serde_json.specs.Read.{number_from, number_of}
use Rattle.lists.proofs.passing.is_natural.Goals as goal

pub returns : goal.returns
unfolding number_of
returns c so =
    let s = c.as_bytes-bytes.result.now in
    let unsigned : (get_or s 0 0 == 45) ≡ false = sym c.if-has_minus.ensures in
    let read : number_from false (scan s) ≡ number_of s = rw unsigned in
    ap is_some (sym (ap (number_from false) c.scan.ensures.parts ∙ read ∙ ap number_of c.as_bytes-bytes.ensures.value)) ∙ c.is_unsigned.ensures so
