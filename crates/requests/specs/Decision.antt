-- What the bytes that came on a connection come to: more are needed, or they are refused or accepted.
use Rattle.std.specs.declared.result.Result.{Result}
use Rattle.std.specs.declared.result.Result.TheVariants.{Ok, Err}
use Rattle.api_request.specs.Calls.{Denied}

pub data Decision (A : Type 0) : Type 0 where
  undecided : Decision A
  refused : Denied → Decision A
  accepted : A → Decision A

-- one check after another: the first that doesn't accept decides
abbrev pub and_then : {A B : Type 0} → Decision A → (A → Decision B) → Decision B
and_then undecided next = undecided
and_then (refused d) next = refused d
and_then (accepted a) next = next a

-- a check that is never undecided
abbrev pub decided_by : {A : Type 0} → Result A Denied → Decision A
decided_by (Ok a) = accepted a
decided_by (Err d) = refused d
