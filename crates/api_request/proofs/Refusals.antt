-- Refusals, and what is refused after them.
use Rattle.std.proofs.Common.{ℕ, List, Err, ap, sym}
use Rattle.api_request.specs.declared.call_error.CallError.{CallError}
use Rattle.api_request.specs.declared.call_error.CallError.TheVariants as call_error
use Rattle.api_request.specs.declared.reason.Reason.{Reason}
use Rattle.api_request.specs.Validated.{Validated, and_then, refused_for}
use Rattle.api_request.specs.Views.{RefusesFor, FailsWith}

pub refuses_fails : (Y : Type 0) (e : CallError) (r : Reason) (message : List ℕ) → RefusesFor e r message → FailsWith {Y = Y} e (refused_for r message)
refuses_fails Y call_error.Memory r message h = tt
refuses_fails Y (call_error.Refused d) r message h = ap Err (sym h)

-- what is validated after a check that failed
pub fails_then : {X Y : Type 0} (e : CallError) (j : Validated X) (f : X → Validated Y) → FailsWith e j → FailsWith e (and_then j f)
fails_then call_error.Memory j f h = tt
fails_then (call_error.Refused d) j f h = ap (λ v. and_then v f) h
