-- What this crate's operations represent.
use Rattle.std.specs.Prelude.{ℕ, Result, Ok, Err}
use Rattle.serde_json.specs.Data.{Data}
use Rattle.serde_json.specs.View.{view}
use Rattle.serde_json.specs.declared.value.Value.{Value}
use Rattle.json_patch.specs.Operations as spec
use Rattle.json_patch.specs.declared.operation.Operation.{Operation}
use Rattle.json_patch.specs.declared.operation.Operation.TheVariants.{Add, Remove, Replace, Move, Copy, Test}

abbrev pub operation_of : Operation → spec.Operation
operation_of (Add path value) = spec.add path (view value)
operation_of (Remove path) = spec.remove path
operation_of (Replace path value) = spec.replace path (view value)
operation_of (Move from path) = spec.move from path
operation_of (Copy from path) = spec.copy from path
operation_of (Test path value) = spec.test path (view value)

abbrev pub pair_of : Value × Value → Data × Data
pair_of p = (view p.0, view p.1)

-- a value, and how much may still be copied
abbrev pub state_of : Value × ℕ → spec.State
state_of p = (view p.0, p.1)

-- what is represented, where there is something
abbrev pub map_ok : {A B E : Type 0} → (A → B) → Result A E → Result B E
map_ok f (Ok a) = Ok (f a)
map_ok f (Err e) = Err e
