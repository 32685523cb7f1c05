use Rattle.std.proofs.Common.{◌≡◌, ◌∙◌, ℕ, ◌*◌, ◌≤◌, ℤ, pos, ◌+ℤ◌, ◌*ℤ◌, ◌++◌, codes, ap, sym, arith, to_z}
use Rattle.std.proofs.lemmas.Int.{to_z_pos}
use Rattle.std.proofs.lemmas.Result.{IfOk-weaker}
use Rattle.std.specs.Int.{w64}
use Rattle.jiff.proofs.Family.{same_datetime}
use Rattle.jiff.proofs.SpanFacts.{signed_arith}
use Rattle.jiff.specs.Words.{iso_datetime_text, nanos_of_seconds}
use Rattle.system_metadata.specs.Moments.{second_at}
use Rattle.system_metadata.proofs.MomentTexts.{moments_are_shown_so}
use Rattle.system_metadata.proofs.moments.moment.Goals as goal

shown_at : (second : ℕ) (shown nanos : ℤ) → second ≤ 253402207200 → nanos ≡ to_z w64 second *ℤ pos 1_000_000_000 → shown ≡ nanos +ℤ nanos_of_seconds (pos 0) → shown ≡ pos (second * 1_000_000_000)
shown_at second shown nanos fits at is =
    let whole : nanos ≡ pos second *ℤ pos 1_000_000_000 = at ∙ ap (λ z. z *ℤ pos 1_000_000_000) (to_z_pos w64 second (omega (arith, fits))) in
    omega (arith, signed_arith, whole, is)

pub returns : goal.returns
returns c =
    let second = c.second_at-second.ensures in
    let at = shown_at c.second_at-second.result _ _ (omega (arith, second)) c.in-Ok.ensures.value c.to_datetime-shown.ensures in
    let moment = moments_are_shown_so (second_at c.args.epoch c.args.milliseconds) (omega arith) in
    let same = same_datetime c.to_datetime-shown.result moment.0 (at ∙ ap (λ n. pos (n * 1_000_000_000)) second ∙ sym moment.1) in
    IfOk-weaker c.format.result _ _ (λ text e. e ∙ ap (λ shown. iso_datetime_text shown ++ codes "Z") same ∙ sym moment.2) c.format.ensures.ok
