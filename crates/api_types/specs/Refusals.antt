-- The refusals of a types file.
use Rattle.std.specs.Prelude.{Option, Some, None}
use Rattle.std.specs.declared.result.Result.{Result}
use Rattle.std.specs.declared.result.Result.TheVariants.{Ok, Err}

-- why a file declares no types, by the refusals' numbers 1 to 6
pub data Refusal : Type 0 where
  unknown_keyword : Refusal
  unknown_type : Refusal
  misfit : Refusal
  too_deep : Refusal
  same_names : Refusal
  not_the_form : Refusal

abbrev pub and_then : {X Y : Type 0} → Result X Refusal → (X → Result Y Refusal) → Result Y Refusal
and_then (Ok x) f = f x
and_then (Err e) f = Err e

abbrev pub some_or : {X : Type 0} → Refusal → Option X → Result X Refusal
some_or e None = Err e
some_or e (Some x) = Ok x
