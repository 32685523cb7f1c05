use Rattle.std.proofs.Common.{◌≡◌, ◌≤◌, drop}
use Rattle.wire.specs.Lengths.{number_after}
use Rattle.wire.proofs.length.decimal_value.Given as goal

abbrev pub invariant-loop-digit : goal.invariant-loop-digit
invariant-loop-digit l = record {
  small : l.number ≤ l.max;
  stated : number_after l.number (drop l.digit-index l.digits) ≡ number_after 0 l.digits;
}
