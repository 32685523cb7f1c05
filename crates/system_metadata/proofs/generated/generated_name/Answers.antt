use Rattle.std.proofs.Common.{◌≡◌, ◌∙◌, ◌-◌, ◌++◌, take, ap, sym, arith}
use Rattle.system_metadata.specs.Digits.{last_digits}
use Rattle.system_metadata.specs.GeneratedNames.{border}
use Rattle.system_metadata.proofs.Borders.{border_is}
use Rattle.system_metadata.proofs.Rounds.{letters}
use Rattle.system_metadata.proofs.generated.generated_name.Goals as goal

pub returns : goal.returns
returns c =
    let prefix = c.args.prefix.now in
    let k = c.floor_char_boundary.result in
    let floor = c.floor_char_boundary.ensures in
    let cut : border prefix 58 ≡ k = border_is prefix 58 k floor.bound floor.boundary floor.nearest in
    let whole : k - 0 ≡ k = omega arith in
    let kept = c.in_ok-name.ensures.ok ∙ c.range.ensures.value ∙ ap (λ n. take n prefix) (whole ∙ sym cut) in
    c.in_ok-push_digits.ensures ∙ ap (λ t. t ++ last_digits letters 5 c.args.number) kept
